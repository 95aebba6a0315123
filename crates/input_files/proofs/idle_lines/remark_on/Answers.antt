use Rattle.std.proofs.Common.{arith}
use Rattle.input_files.specs.Settings.{after, many, named, no_map}
use Rattle.input_files.proofs.idle_lines.remark_on.Goals as goal

pub returns-in-Some : goal.returns-in-Some
returns-in-Some c = after _ (rw c.new-map.ensures at (rw c.in-Some.is at c.in_ok-line.ensures.many))

pub returns-then-not-is_map : goal.returns-then-not-is_map
returns-then-not-is_map c =
    let set = rw c.new-map.ensures at (rw c.in_default.is at c.in_ok-line.ensures.all) in
    rw c.if-not-is_map.true (no_map _ set)

pub returns-then-settings-gt-MOST : goal.returns-then-settings-gt-MOST
returns-then-settings-gt-MOST c =
    let set = rw c.new-map.ensures at (rw c.in_default.is at c.in_ok-line.ensures.all) in
    rw c.if-not-is_map.false (many _ set (omega (arith, c.if-settings-gt-MOST.true)))

pub returns : goal.returns
returns c =
    let set = rw c.new-map.ensures at (rw c.in_default.is at c.in_ok-line.ensures.all) in
    rw c.if-not-is_map.false (named c.in_ok-whole.whole _ (rw c.in_ok-whole.ensures.map set)
    (omega (arith, c.if-settings-gt-MOST.false)) c.in_ok-idle.ensures)
