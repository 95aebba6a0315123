use Rattle.std.proofs.Common.{List, ℕ, drop, subst, arith}
use Rattle.device_tree.specs.Words.{BeginsWithText}
use Rattle.host_tree.proofs.OneName.{name_inside, next_name, none_behind, other_text}
use Rattle.host_tree.proofs.names.place_in.Goals as goal

pub names-preserved : goal.names-preserved
names-preserved c =
    let names = c.args.names.now in
    let text = c.in_ok-text.text.now in
    let begins : BeginsWithText (drop c.names.at names) text = subst (λ (x : List ℕ). BeginsWithText x text) c.after.ensures c.in_ok-text.ensures in
    record {
      within = name_inside names text c.names.at begins;
      left = λ h. next_name names c.args.name.now text c.names.at begins (other_text text c.args.name.now c.if-eq.ensures) (c.names.invariant.left h);
    }

-- no text is behind the last
pub returns-clause-none : goal.returns-clause-none
returns-clause-none c = λ h. none_behind c.args.names.now c.args.name.now c.names.at (omega (arith, c.names-test.false)) (c.names.invariant.left h)
