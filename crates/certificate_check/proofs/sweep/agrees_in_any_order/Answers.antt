-- Each key hands out the entry that begins next, at the first page where no other has decided.
use Rattle.std.proofs.Common.{◌≡◌, ℕ, ◌+◌, ◌/◌, ◌%◌, ◌^◌, ◌<◌, ◌≤◌, ◌⊎◌, List, get_or, ⊎_elim, arith, rules, sym, subst, ap, refl, ◌∙◌}
use Rattle.std.specs.List.Sorted.{IsNonDecreasing}
use Rattle.std.proofs.lemmas.Bool.{cases_lt}
use Rattle.pmp_encoding.specs.declared.perm.Perm.{Perm}
use Rattle.permission_map.specs.Runs.{view_of_runs}
use Rattle.certificate_check.specs.declared.entries.Span.{Span}
use Rattle.certificate_check.specs.Spans.{Decides, count_in}
use Rattle.certificate_check.specs.InOrder.{key_of, AreKeys, AreBegun, NoneBegins}
use Rattle.certificate_check.proofs.Blocks.{blocks_read}
use Rattle.certificate_check.proofs.Opened.{begun_later, begun_among, begun_none, ended_none}
use Rattle.certificate_check.proofs.Gathered.{same_element, AreWithin, key_behind, key_order, key_from, keys_next, keys_first, begins_later, begins_at}
use Rattle.certificate_check.proofs.Gathered.{by_option}
use Rattle.certificate_check.proofs.sweep.agrees_in_any_order.Goals as goal

pub loop-low-init : goal.loop-low-init
loop-low-init g c = record {
  inside = omega arith;
  keys = omega arith;
  order = omega arith;
  later = c.requires.later;
  few = search rules;
  ended = ended_none _ 0 _ refl;
  same = λ at h. refl;
  begun = λ spans reads. begun_none spans _ 0 45 _ refl;
  given = λ spans reads at less. absurd (omega arith);
}

pub loop-key-init : goal.loop-key-init
loop-key-init g c =
    let inv = c.loop-low.invariant in
    let low : ℕ = c.loop-low.low in
    let high : ℕ = c.gather-low.result in
    let ks : List ℕ = c.deref-key-items.result.now in
    let within : AreWithin low high ks = rw (c.deref-key-items.ensures.0) (λ k d less. let n = c.gather-low.ensures.numbers k d less in (n.1, n.2)) in
    let sorted : IsNonDecreasing ks = rw (c.deref-key-items.ensures.0) c.gather-low.ensures.sorted in
    let from : low ≤ get_or ks 0 high = key_from low high 0 ks within (let l = c.gather-low.ensures.later in omega arith) in
    record {
      inside = inv.inside;
      order = (let o = inv.order in omega (arith, o, from));
      later = inv.later;
      few = inv.few;
      ended = inv.ended;
      same = inv.same;
      begun = λ spans reads.
          let are : AreKeys spans (count_in c.args.entries.now) low high ks = rw (c.deref-key-items.ensures.0) (c.gather-low.ensures.value spans reads) in
          begun_among spans (count_in c.args.entries.now) low (get_or ks 0 high) c.loop-low.page c.loop-low.slots
          (keys_first spans (count_in c.args.entries.now) low high ks are sorted)
          (inv.begun spans reads);
      given = inv.given;
    }

pub loop-low-preserved : goal.loop-low-preserved
loop-low-preserved g c =
    let inv = c.loop-key.invariant in
    let high : ℕ = c.gather-low.result in
    let ks : List ℕ = c.deref-key-items.result.now in
    let all : get_or ks c.loop-key.key-index high ≡ high = key_behind ks c.loop-key.key-index high c.loop-key-test.false in
    record {
      inside = inv.inside;
      keys = c.gather-low.ensures.inside;
      order = (let o = inv.order in omega (arith, o, all));
      later = inv.later;
      few = inv.few;
      ended = inv.ended;
      same = inv.same;
      begun = λ spans reads.
          subst (λ (n : ℕ). AreBegun spans (count_in c.args.entries.now) n c.loop-key.page c.loop-key.slots) all (inv.begun spans reads);
      given = inv.given;
    }

pub loop-key-preserved : goal.loop-key-preserved
loop-key-preserved g c =
    let inv = c.loop-key.invariant in
    let low : ℕ = c.loop-low.low in
    let high : ℕ = c.gather-low.result in
    let ks : List ℕ = c.deref-key-items.result.now in
    let x : ℕ = c.loop-key.key-index in
    let page : ℕ = c.first_of-first.result in
    let count : ℕ = count_in c.args.entries.now in
    let within : AreWithin low high ks = rw (c.deref-key-items.ensures.0) (λ k d less. let n = c.gather-low.ensures.numbers k d less in (n.1, n.2)) in
    let sorted : IsNonDecreasing ks = rw (c.deref-key-items.ensures.0) c.gather-low.ensures.sorted in
    let key : get_or ks x 0 ≡ get_or ks x high = same_element ks x 0 high c.loop-key-test.true in
    let first : page ≡ get_or ks x high / 2 ^ 19 = c.first_of-first.ensures ∙ ap (λ n. n / 2 ^ 19) key in
    let number : c.number_of-number.result ≡ get_or ks x high % 2 ^ 19 = c.number_of-number.ensures ∙ ap (λ n. n % 2 ^ 19) key in
    let below : get_or ks x high < high = (within x high c.loop-key-test.true).1 in
    let next : get_or ks x high ≤ get_or ks (x + 1) high = key_order low high x ks within sorted c.loop-key-test.true in
    let some : c.loop-key.page ≤ page = (let o = inv.order in omega (arith, o, first)) in
    let few = c.requires.few in
    record {
      inside = (let h = c.gather-low.ensures.inside in omega (arith, h, first, below));
      order = omega (arith, first, next);
      later = c.in-Some.ensures.later;
      few = search rules;
      ended = search rules;
      same = λ at h. c.in-Some.ensures.same at h ∙ inv.same at (omega (arith, some, h));
      begun = λ spans reads.
          let are : AreKeys spans count low high ks = rw (c.deref-key-items.ensures.0) (c.gather-low.ensures.value spans reads) in
          let is = are.each x high c.loop-key-test.true in
          let inside : c.number_of-number.result < count = (let n = is.number in omega (arith, n, number)) in
          let span = c.span.ensures.value spans reads in
          let real : get_or ks x high ≡ key_of spans c.number_of-number.result = is.real ∙ ap (λ n. key_of spans n) (sym number) in
          let begins : c.span.result.first ≡ page =
          ap (λ (s : Span). s.first) span ∙ begins_at spans c.number_of-number.result (get_or ks x high) page (omega (arith, inside, few)) first real in
          c.begin.ensures.begun spans count (get_or ks x high) (get_or ks (x + 1) high) (blocks_read c.args.entries.now spans reads)
          (begun_later spans count (get_or ks x high) c.loop-key.page page c.loop-key.slots some (inv.begun spans reads)) inside span begins
          (λ j less early. subst (λ (n : ℕ). (key_of spans j < get_or ks x high) ⊎ (j ≡ n)) (sym number)
          (keys_next spans count low high x ks are sorted few c.loop-key-test.true j less early));
      given = λ spans reads at less.
          ⊎_elim (λ before. inv.given spans reads at before)
          (λ from.
          let none : NoneBegins spans count (get_or ks x high) page = λ j inside later. begins_later spans j (get_or ks x high) page
          (omega (arith, inside, few)) first later in
          subst (λ (p : Perm). Decides spans count at p) (inv.same at from)
          (c.in-Some.ensures.given spans count (get_or ks x high) (blocks_read c.args.entries.now spans reads) (inv.begun spans reads) none at from less))
          (cases_lt at c.loop-key.page);
    }

pub returns-in_default : goal.returns-in_default
returns-in_default g c =
    λ spans reads.
    let inv = c.loop-key.invariant in
    let high : ℕ = c.gather-low.result in
    let ks : List ℕ = c.deref-key-items.result.now in
    let x : ℕ = c.loop-key.key-index in
    let page : ℕ = c.first_of-first.result in
    let count : ℕ = count_in c.args.entries.now in
    let within : AreWithin c.loop-low.low high ks = rw (c.deref-key-items.ensures.0)
    (λ k d less. let n = c.gather-low.ensures.numbers k d less in (n.1, n.2)) in
    let key : get_or ks x 0 ≡ get_or ks x high = same_element ks x 0 high c.loop-key-test.true in
    let first : page ≡ get_or ks x high / 2 ^ 19 = c.first_of-first.ensures ∙ ap (λ n. n / 2 ^ 19) key in
    let below : get_or ks x high < high = (within x high c.loop-key-test.true).1 in
    let inside : page ≤ 2 ^ 44 = (let h = c.gather-low.ensures.inside in omega (arith, h, first, below)) in
    let few = c.requires.few in
    let none : NoneBegins spans count (get_or ks x high) page = λ j less later. begins_later spans j (get_or ks x high) page
    (omega (arith, less, few)) first later in
    let differs = c.in_default.ensures.differs spans count (get_or ks x high) (blocks_read c.args.entries.now spans reads) (inv.begun spans reads) none in (
      (λ t. absurd (cc)),
      (λ all. absurd (differs.3 (subst (λ (p : Perm). Decides spans count differs.0 p) (sym (inv.same differs.0 differs.1))
          (all differs.0 (let d = differs.2 in omega (arith, d, inside)))))),
    )

pub returns : goal.returns
returns g c =
    λ spans reads.
    let inv = c.loop-low.invariant in
    let count : ℕ = count_in c.args.entries.now in
    let blocks = blocks_read c.args.entries.now spans reads in
    let past = c.loop-low-test.false in
    let few = c.requires.few in
    let none : NoneBegins spans count c.loop-low.low (2 ^ 44) = λ j less later. absurd
    (let inside = blocks.inside j less in omega (arith, inside, later, past, less, few)) in
    by_option c.agreed-2.result c.is_some.result ((page : ℕ) → page < 2 ^ 44 → Decides spans count page (view_of_runs c.args.runs.now page))
    ((page : ℕ) → page < 2 ^ 44 → Decides spans count page (view_of_runs c.args.runs.now page)) c.is_some.ensures c.agreed-2.ensures.given
    (λ given at less.
    ⊎_elim (λ before. inv.given spans reads at before)
    (λ from. subst (λ (p : Perm). Decides spans count at p) (inv.same at from)
    (given spans count c.loop-low.low blocks (inv.begun spans reads) none at from less))
    (cases_lt at c.loop-low.page))
    c.agreed-2.ensures.differs
    (λ differs all.
    let d = differs spans count c.loop-low.low blocks (inv.begun spans reads) none in
    d.3 (subst (λ (p : Perm). Decides spans count d.0 p) (sym (inv.same d.0 d.1)) (all d.0 d.2)))
