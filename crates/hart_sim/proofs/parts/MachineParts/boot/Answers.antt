use Rattle.std.proofs.Common.{◌≡◌, ◌∙◌, ℕ, zero, suc, Bool, true, false, if◌then◌else◌, [], ◌∷◌, Option, None, Some, slice_get, refl, ap, sym, subst}
use Rattle.std.specs.Prelude.{option_map, unwrap_or}
use Rattle.std.proofs.lemmas.Option.{same_Some}
use Rattle.pmp_encoding.specs.declared.bank.Bank.{Bank}
use Rattle.pmp_encoding.specs.declared.limit.Limit.{Limit}
use Rattle.pmp_encoding.specs.Banks.{HasList, IsBankOf}
use Rattle.pmp_encoding.specs.Limits.{limit_number}
use Rattle.sbi_decode.specs.Registers.{RegisterFile, zeros}
use Rattle.sbi_decode.specs.Runners.{runner_of}
use Rattle.context_switch.specs.Contexts.{saved_of}
use Rattle.context_switch.specs.Harts.{bank_of, number_of, world_of}
use Rattle.context_switch.specs.declared.hart.Hart.{Hart}
use Rattle.monitor_core.specs.Changes.{is_same}
use Rattle.monitor_core.specs.Cores.{core_kept, worlds_of}
use Rattle.enclave_table.specs.Views.{current_view}
use Rattle.hart_sim.specs.Banks.{LoadsFewest}
use Rattle.hart_sim.specs.Parts.{IsHart}
use Rattle.hart_sim.proofs.parts.MachineParts.boot.Goals as goal

-- what holds of each of four harts
each_of : (P : ℕ → Hart → Type 0) (a b c d : Hart) → P 0 a → P 1 b → P 2 c → P 3 d → (i : ℕ) (h : Hart)
    → slice_get (a ∷ (b ∷ (c ∷ (d ∷ [])))) i ≡ Some h → P i h
each_of P a b c d pa pb pc pd zero h at = subst (P 0) (same_Some a h at) pa
each_of P a b c d pa pb pc pd (suc zero) h at = subst (P 1) (same_Some b h at) pb
each_of P a b c d pa pb pc pd (suc (suc zero)) h at = subst (P 2) (same_Some c h at) pc
each_of P a b c d pa pb pc pd (suc (suc (suc zero))) h at = subst (P 3) (same_Some d h at) pd
each_of P a b c d pa pb pc pd (suc (suc (suc (suc i)))) h at = absurd (let h : None ≡ Some h = at in cc)

-- a hart has the bank that is at its place
of_hart : (o : Option Hart) (bank : Bank) → option_map bank_of o ≡ Some bank → (h : Hart) × (o ≡ Some h) × (bank_of h ≡ bank)
of_hart None bank is = absurd (let h : None ≡ Some bank = is in cc)
of_hart (Some h) bank is = (h, refl, same_Some (bank_of h) bank is)

either_zero : (t : Bool) (x y : RegisterFile) → x ≡ zeros → y ≡ zeros → (if t then x else y) ≡ zeros
either_zero true x y p q = p
either_zero false x y p q = q

saved_zero : (o : Option RegisterFile) → ((file : RegisterFile) → o ≡ Some file → file ≡ zeros) → unwrap_or o zeros ≡ zeros
saved_zero None all = refl
saved_zero (Some file) all = all file refl

-- nothing is written, each register is zero, and the rest is the core's
pub returns-clause-state : goal.returns-clause-state
returns-clause-state c = λ i.
    let core = c.in-Ok.ensures.state (λ who. zeros) i in
    record {
      table = core.table;
      worlds = core.worlds;
      registers = λ who. either_zero (is_same who (runner_of (number_of c.new.result) (world_of c.new.result))) _ _ c.new.ensures.registers
          (either_zero (is_same who (runner_of (number_of c.new-2.result) (world_of c.new-2.result))) _ _ c.new-2.ensures.registers
          (either_zero (is_same who (runner_of (number_of c.new-3.result) (world_of c.new-3.result))) _ _ c.new-3.ensures.registers
          (either_zero (is_same who (runner_of (number_of c.new-4.result) (world_of c.new-4.result))) _ _ c.new-4.ensures.registers
          (saved_zero (saved_of c.new-6.result who) (λ file is. c.new-6.ensures.zero who file is))))) i;
      bytes = λ address. c.new-5.ensures.bytes address i;
      written = λ page. c.new-5.ensures.written page i;
      marked = core.marked;
    }

pub returns-clause-fit : goal.returns-clause-fit
returns-clause-fit c =
    let core = c.in-Ok.core in
    let limit = (core_kept core).table.layout.limit in
    let there : Limit → Type 0 = λ l. limit_number l ≡ limit_number limit in
    let known : there c.limit-limit.result = ap limit_number (c.limit-limit.ensures ∙ ap (λ t. t.table.layout.limit) c.table.ensures) in
    let host = λ (n : ℕ). ap (λ s. s.worlds n) (c.in-Ok.ensures.state (λ who. zeros)) in
    record {
      four = refl;
      each = each_of (λ n h. IsHart h n (worlds_of core n) limit) c.new.result c.new-2.result c.new-3.result c.new-4.result
          (record {
            number = c.new.ensures.number;
            world = c.new.ensures.world ∙ sym (host 0);
            limited = ap limit_number c.new.ensures.bank.limit_is ∙ known;
          })
          (record {
            number = c.new-2.ensures.number;
            world = c.new-2.ensures.world ∙ sym (host 1);
            limited = ap limit_number c.new-2.ensures.bank.limit_is ∙ known;
          })
          (record {
            number = c.new-3.ensures.number;
            world = c.new-3.ensures.world ∙ sym (host 2);
            limited = ap limit_number c.new-3.ensures.bank.limit_is ∙ known;
          })
          (record {
            number = c.new-4.ensures.number;
            world = c.new-4.ensures.world ∙ sym (host 3);
            limited = ap limit_number c.new-4.ensures.bank.limit_is ∙ known;
          });
    }

pub returns-clause-banks : goal.returns-clause-banks
returns-clause-banks c = λ hart bank low off has.
    let core = c.in-Ok.core in
    let entries = c.entries-entries.result.now in
    let host = λ (n : ℕ). ap (λ s. s.worlds n) (c.in-Ok.ensures.state (λ who. zeros)) in
    let loads : (h : Hart) (n : ℕ) → HasList (bank_of h) entries → IsBankOf (bank_of h) c.limit-limit.result entries
    → LoadsFewest (bank_of h) (current_view (core_kept core).table (worlds_of core n)) = λ h n list exact.
    subst (λ w. LoadsFewest (bank_of h) (current_view (core_kept core).table w)) (host 0 ∙ sym (host n)) (record {
      list = entries;
      loaded = list;
      fewest = c.entries-entries.ensures.fewest;
      exact = subst (λ l. IsBankOf (bank_of h) l entries) (sym exact.limit_is) exact;
    }) in
    let there = of_hart (slice_get (c.new.result ∷ (c.new-2.result ∷ (c.new-3.result ∷ (c.new-4.result ∷ [])))) hart) bank has in
    subst (λ b. LoadsFewest b (current_view (core_kept core).table (worlds_of core hart))) there.2
    (each_of (λ n h. LoadsFewest (bank_of h) (current_view (core_kept core).table (worlds_of core n))) c.new.result c.new-2.result c.new-3.result c.new-4.result
    (loads c.new.result 0 c.new.ensures.list c.new.ensures.bank) (loads c.new-2.result 1 c.new-2.ensures.list c.new-2.ensures.bank)
    (loads c.new-3.result 2 c.new-3.ensures.list c.new-3.ensures.bank) (loads c.new-4.result 3 c.new-4.ensures.list c.new-4.ensures.bank) hart there.0 there.1)
