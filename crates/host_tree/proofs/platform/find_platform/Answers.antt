use Rattle.std.proofs.Common.{◌∙◌, ◌*◌, List, drop, length, refl, subst, sym, false}
use Rattle.device_tree.specs.declared.rows.Extent.{Extent}
use Rattle.host_tree.specs.Boards.{HartsThere, extents_of}
use Rattle.host_tree.specs.Platforms.{IsClipped, pairs_in}
use Rattle.host_tree.proofs.Pairs.{pairs_are, words_behind}
use Rattle.host_tree.proofs.RootRefused.{board_lacks_memory}
use Rattle.host_tree.proofs.platform.find_platform.Goals as goal

pub returns-clause-found : goal.returns-clause-found
returns-clause-found c =
    let b = c.in-Ok.ensures.ok in
    let l = c.in-Ok-left_of.ensures.ok in
    let old = c.args.platform.now in
    record {
      tree = b.0;
      reservations = b.1;
      ranges = b.3;
      read = b.2;
      said = b.4;
      harts = subst (λ (x : List Extent). HartsThere x old.harts c.harts_there-platform.result) (c.as_slice.ensures.value ∙ b.5)
          c.harts_there-platform.ensures;
      memory = subst (λ (x : List Extent). IsClipped (extents_of false b.3) (pairs_in old.ram_count old.ram) x)
          (sym (pairs_are _ _ (drop (2 * length l.0) old.ram) l.0 l.2 l.3))
          (subst (λ (x : List Extent). IsClipped x (pairs_in old.ram_count old.ram) l.0) b.6 l.1);
      behind = words_behind _ old.ram _ l.0 l.2 l.3;
      tag = refl;
      entries = refl;
      monitor_base = refl;
      monitor_size = refl;
      device_count = refl;
      device = refl;
    }

pub returns-in-Err-left_of-clause-refused : goal.returns-in-Err-left_of-clause-refused
returns-in-Err-left_of-clause-refused c = board_lacks_memory c.args.bytes.now c.in-Err-left_of.fault c.in-Err-left_of.ensures.refused
