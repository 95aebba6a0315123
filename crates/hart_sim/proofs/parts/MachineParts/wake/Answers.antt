use Rattle.std.proofs.Common.{◌≡◌, ◌∙◌, ◌≤◌, false, Bool, if◌then◌else◌, length, refl, ap, sym, subst, arith, slice_set}
use Rattle.std.proofs.lemmas.Bool.{ne_eqb}
use Rattle.sbi_decode.specs.Registers.{zeros}
use Rattle.sbi_decode.specs.declared.world.World.TheVariants.{Host}
use Rattle.pmp_encoding.specs.Banks.{HasList, IsBankOf}
use Rattle.pmp_encoding.specs.Limits.{limit_number}
use Rattle.context_switch.specs.Harts.{bank_of}
use Rattle.monitor_core.specs.Cores.{core_kept, list_of, core_marks, core_state, worlds_of}
use Rattle.monitor_core.specs.Changes.{without_mark}
use Rattle.monitor_core.proofs.Said.{same_sets}
use Rattle.hart_sim.specs.Parts.{AreHarts, registers_in, shown}
use Rattle.hart_sim.proofs.BankPlaces.{read_at}
use Rattle.hart_sim.proofs.Followed.{bank_here, bank_there}
use Rattle.hart_sim.proofs.HartSets.{harts_put, put_alike}
use Rattle.hart_sim.proofs.Framed.{frame_still, frame_woken}
use Rattle.hart_sim.proofs.parts.MachineParts.wake.Goals as goal

pub load-requires : goal.load-requires
load-requires c =
    let old = c.args.self.now in
    let at = read_at old.harts c.args.hart c.index-self-hart.result (omega (arith, c.requires.on.fit.four, c.requires.few)) in
    subst (λ n. length c.entries.result.now ≤ n) (sym (c.requires.on.fit.each c.args.hart _ at).limited) c.entries.ensures.room

pub returns-clause-state : goal.returns-clause-state
returns-clause-state c =
    let old = c.args.self.now in
    let at = read_at old.harts c.args.hart c.index-self-hart.result (omega (arith, c.requires.on.fit.four, c.requires.few)) in
    let same = same_sets (λ who. put_alike old.harts old.contexts c.args.hart _ c.load.new.self who at c.load.ensures.number c.load.ensures.world
    c.load.ensures.registers) in
    ap (λ core. shown core old.memory) (c.wake.ensures.state (registers_in (slice_set old.harts c.args.hart c.load.new.self) old.contexts))
    ∙ ap (λ sets. shown (without_mark (core_state old.core sets) c.args.hart) old.memory) same

pub returns-clause-woken : goal.returns-clause-woken
returns-clause-woken c = λ on.
    let old = c.args.self.now in
    let at = read_at old.harts c.args.hart c.index-self-hart.result (omega (arith, c.requires.on.fit.four, c.requires.few)) in
    let host : worlds_of old.core c.args.hart ≡ Host = (c.cite_invariant.ensures.worlds (λ who. zeros)).marked c.args.hart c.requires.on.known on in (
      bank_of c.load.new.self,
      bank_here old.harts c.args.hart _ c.load.new.self at,
      subst (λ w. HasList (bank_of c.load.new.self) (list_of (core_kept old.core) w)) host
          (subst (HasList (bank_of c.load.new.self)) c.entries.ensures.value c.load.ensures.list),
    )

pub returns-then-not-is_marked-clause-frame : goal.returns-then-not-is_marked-clause-frame
returns-then-not-is_marked-clause-frame c =
    let old = c.args.self.now in
    frame_still old old c.args.hart c.requires.on.fit (sym c.is_marked.ensures ∙ c.if-not-is_marked.true) refl (λ i. refl) (λ i. refl) refl (λ i. refl)

pub returns-clause-frame : goal.returns-clause-frame
returns-clause-frame c =
    let old = c.args.self.now in
    let hart = c.args.hart in
    let now = c.wake.new.self in
    let k = c.load.new.self in
    let new = record old { core = now; harts = slice_set old.harts hart k } in
    let at = read_at old.harts hart c.index-self-hart.result (omega (arith, c.requires.on.fit.four, c.requires.few)) in
    let is = c.requires.on.fit.each hart _ at in
    let woken = c.wake.ensures.state (λ who. zeros) in
    let exact : IsBankOf (bank_of k) (bank_of k).limit c.entries.result.now =
    subst (λ l. IsBankOf (bank_of k) l c.entries.result.now) (sym c.load.ensures.bank.limit_is) c.load.ensures.bank in
    let fit : AreHarts (slice_set old.harts hart k) (worlds_of now) (core_kept now).table.layout.limit =
    subst (λ kept. AreHarts (slice_set old.harts hart k) (worlds_of now) kept.table.layout.limit) (sym c.wake.ensures.kept)
    (harts_put old.harts (worlds_of old.core) (worlds_of now) (core_kept old.core).table.layout.limit hart _ k c.requires.on.fit at
    (record {
      number = c.load.ensures.number ∙ is.number;
      world = c.load.ensures.world ∙ is.world ∙ sym (ap (λ s. s.worlds hart) woken);
      limited = ap limit_number c.load.ensures.bank.limit_is ∙ is.limited;
    })
    (λ i other. ap (λ s. s.worlds i) woken)) in
    frame_woken old new hart (sym c.is_marked.ensures ∙ c.if-not-is_marked.false) fit (ap (λ kept. kept.table) c.wake.ensures.kept)
    (λ i. ap (λ s. s.worlds i) woken)
    (λ i other. ap (λ s. s.marked i) woken ∙ ap (λ (b : Bool). if b then false else core_marks old.core i) (ne_eqb i hart other))
    c.wake.ensures.kept (λ i other. bank_there old.harts hart i k other) (
      bank_of k,
      bank_here old.harts hart _ k at,
      record {
        list = c.entries.result.now;
        loaded = c.load.ensures.list;
        fewest = c.entries.ensures.fewest;
        exact = exact;
      },
    ) (
      bank_of k,
      bank_here old.harts hart _ k at,
      subst (λ l. IsBankOf (bank_of k) (bank_of k).limit l)
          (c.entries.ensures.value ∙ ap (λ kept. list_of kept (worlds_of old.core hart)) (sym c.wake.ensures.kept)
          ∙ ap (list_of (core_kept now)) (sym (ap (λ s. s.worlds hart) woken))) exact,
    )
