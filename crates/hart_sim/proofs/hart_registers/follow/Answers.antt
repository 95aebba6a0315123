use Rattle.std.proofs.Common.{◌≡◌, ◌∙◌, [], ◌∷◌, ap, sym, subst}
use Rattle.pmp_encoding.specs.Banks.{HasList, IsBankOf}
use Rattle.pmp_encoding.specs.Limits.{limit_number}
use Rattle.pmp_match.specs.Meaning.{IsFewest}
use Rattle.enclave_table.specs.Views.{current_view}
use Rattle.context_switch.specs.Harts.{bank_of, number_of}
use Rattle.monitor_core.specs.Cores.{core_kept, list_of, worlds_of}
use Rattle.hart_sim.specs.Parts.{registers_in}
use Rattle.hart_sim.proofs.SetsFollowed.{chained, switched_sets}
use Rattle.hart_sim.proofs.hart_registers.follow.Goals as goal

pub returns : goal.returns
returns c =
    let core = c.args.core.now in
    let was = c.args.here.now in
    let mid = c.change-2.new.here in
    let went = c.switch.new.hart in
    let now = c.change-3.new.here in
    let s = c.switch.ensures in
    let first = c.change.ensures.number in
    let number : number_of mid ≡ number_of was = c.change-2.ensures.number ∙ first in
    let place : c.number-number.result ≡ number_of was = c.number-number.ensures.value ∙ number in
    let list : c.entries.result.now ≡ list_of (core_kept core) (worlds_of core (number_of was)) =
    c.entries.ensures.value ∙ ap (λ n. list_of (core_kept core) (worlds_of core n)) place in
    let bank : bank_of now ≡ bank_of went = c.change-3.ensures.bank in
    let exact : IsBankOf (bank_of went) (bank_of went).limit (list_of (core_kept core) (worlds_of core (number_of was))) =
    subst (λ l. IsBankOf (bank_of went) l (list_of (core_kept core) (worlds_of core (number_of was)))) (sym s.bank.limit_is)
    (subst (IsBankOf (bank_of went) (bank_of mid).limit) list s.bank) in
    record {
      sets = chained (number_of was) (number_of c.change.new.here) (number_of went) c.args.changes.now (registers_in (was ∷ []) c.args.contexts.now)
          (registers_in (c.change.new.here ∷ []) c.change.new.contexts) (registers_in (went ∷ []) c.switch.new.contexts)
          (registers_in (now ∷ []) c.change-3.new.contexts) c.change.ensures.sets first
          (λ who. switched_sets mid went c.change-2.new.contexts c.switch.new.contexts c.world.result s.switches who ∙ c.change-2.ensures.sets who)
          (s.switches.number ∙ c.change-2.ensures.number) c.change-3.ensures.sets;
      number = c.change-3.ensures.number ∙ s.switches.number ∙ number;
      limited = ap limit_number (ap (λ b. b.limit) bank ∙ s.bank.limit_is ∙ ap (λ b. b.limit) (c.change-2.ensures.bank ∙ c.change.ensures.bank))
          ∙ c.requires.limited;
      loaded = λ on. record {
        world = c.change-3.ensures.world ∙ s.switches.world ∙ c.world.ensures.value ∙ ap (worlds_of core) place;
        list = subst (λ b. HasList b (list_of (core_kept core) (worlds_of core (number_of was)))) (sym bank) (subst (HasList (bank_of went)) list s.list);
        exact = subst (λ b. IsBankOf b b.limit (list_of (core_kept core) (worlds_of core (number_of was)))) (sym bank) exact;
        fewest = subst (λ n.
            IsFewest (current_view (core_kept core).table (worlds_of core n)) (list_of (core_kept core) (worlds_of core (number_of was)))) place
            (subst (IsFewest (current_view (core_kept core).table (worlds_of core c.number-number.result))) list c.entries.ensures.fewest);
      };
      stays = λ off. absurd (let on = sym c.if-not-load.false ∙ off in cc);
    }
