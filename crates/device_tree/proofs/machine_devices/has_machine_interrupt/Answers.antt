use Rattle.std.proofs.Common.{◌≡◌, ◌≤◌, ◌∙◌, ◌/◌, ap, sym, refl, true, false, ℕ, suc, List, length, drop, length-drop, Bool, arith}
use Rattle.std.specs.Prelude.{◌==◌, ◌&&◌, ◌||◌, leb}
use Rattle.byteorder.specs.Endian.{big_number}
use Rattle.device_tree.specs.MachineDevices.{has_machine_interrupt}
use Rattle.device_tree.proofs.machine_devices.has_machine_interrupt.Goals as goal

abbrev pub is_pair : List ℕ → Bool
is_pair bytes = leb 8 (length bytes) && big_number 4 (drop 4 bytes) == 11

first_pair : (bytes : List ℕ) → 8 ≤ length bytes
    → has_machine_interrupt (length bytes / 8) bytes ≡ (is_pair bytes || has_machine_interrupt (length (drop 8 bytes) / 8) (drop 8 bytes))
first_pair bytes long =
    let one : length bytes / 8 ≡ suc (length (drop 8 bytes) / 8) = omega (arith, long, length-drop 8 bytes) in
    ap (λ (n : ℕ). has_machine_interrupt n bytes) one

found : (a b : Bool) → a ≡ true → (a || b) ≡ true
found a b e = rw e refl

not_found : (a b : Bool) → a ≡ false → (a || b) ≡ b
not_found a b e = rw e refl

no_pairs : (bytes : List ℕ) (n : ℕ) → n ≡ 0 → has_machine_interrupt n bytes ≡ false
no_pairs bytes n e = rw e refl

pub returns-then-is_machine_pair : goal.returns-then-is_machine_pair
returns-then-is_machine_pair c =
    let here = first_pair c.pairs.rest.now (omega (arith, c.pairs-test.true))
    ∙ found (is_pair c.pairs.rest.now) _ (sym c.is_machine_pair.ensures ∙ c.if-is_machine_pair.true) in
    sym here ∙ c.pairs.invariant

pub pairs-preserved : goal.pairs-preserved
pairs-preserved c =
    let rest = c.pairs.rest.now in
    let here = first_pair rest (omega (arith, c.pairs-test.true))
    ∙ not_found (is_pair rest) _ (sym c.is_machine_pair.ensures ∙ c.if-is_machine_pair.false) in
    ap (λ (x : List ℕ). has_machine_interrupt (length x / 8) x) c.after-rest.ensures ∙ sym here ∙ c.pairs.invariant

pub returns : goal.returns
returns c =
    let rest = c.pairs.rest.now in
    let few : length rest / 8 ≡ 0 = omega (arith, c.pairs-test.false) in
    sym (no_pairs rest (length rest / 8) few) ∙ c.pairs.invariant
