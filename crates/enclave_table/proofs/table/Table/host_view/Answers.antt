use Rattle.std.proofs.Common.{◌≡◌, ◌∙◌, sym, ap, subst, refl, Bool, true, false, ◌||◌, cond, drop, arith}
use Rattle.std.proofs.lemmas.List.{at_drop_all}
use Rattle.pmp_encoding.specs.declared.perm.Perm.TheVariants.{NoAccess}
use Rattle.permission_map.specs.Runs.{view_of_runs}
use Rattle.permission_map.specs.Views.{SameView}
use Rattle.platforms.specs.Platform.{PlatformLayout, platform_perm}
use Rattle.enclave_table.proofs.ShortNames.{any_private}
use Rattle.enclave_table.proofs.table.Table.host_view.Goals as goal
use Rattle.platforms.specs.Ranges.{has_page}

or_none : (b : Bool) → (b || false) ≡ b
or_none true = refl
or_none false = refl

pub loop-id-init : goal.loop-id-init
loop-id-init c =
    let layout = c.args.self.now.table.layout in
    let es = c.args.self.now.table.enclaves in
    let L : PlatformLayout → Type 0 = λ l. SameView (view_of_runs c.in_ok-map.map) (λ page. cond (has_page l.monitor page) NoAccess (platform_perm l page)) in
    let here : SameView (view_of_runs c.in_ok-map.map) (λ page. cond (has_page layout.monitor page) NoAccess (platform_perm layout page)) = subst L
    c.platform.ensures c.in_ok-map.ensures.view in
    record {
      inside = omega arith;
      few = omega (arith, c.in_ok-map.ensures.few);
      view = λ page small.
          let rest : any_private (drop 64 es) page ≡ false = at_drop_all (λ s. any_private s page) es 64
          (omega (arith, c.cite_invariant.ensures.table.places)) in
          let same : (has_page layout.monitor page || any_private (drop 64 es) page) ≡ has_page layout.monitor page = ap
          (λ t. has_page layout.monitor page || t) rest ∙ or_none (has_page layout.monitor page) in
          here page small ∙ sym (ap (λ t. cond t NoAccess (platform_perm layout page)) same);
    }
