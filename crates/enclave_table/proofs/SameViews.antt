-- What is said of a view is said of each view that is the same at the pages of the space.
use Rattle.std.proofs.Common.{ℕ, ◌≡◌, ◌+◌, ◌/◌, ◌^◌, ◌<◌, ◌∙◌, refl, sym, ap, cond, List, length, arith}
use Rattle.pmp_encoding.specs.declared.perm.Perm.{Perm}
use Rattle.permission_map.specs.Runs.{in_range}
use Rattle.pmp_encoding.specs.declared.limit.Limit.{Limit}
use Rattle.pmp_encoding.specs.declared.region.Entry.{Entry}
use Rattle.pmp_match.specs.Meaning.{View, Means, IsFewest, Needs}
use Rattle.permission_map.specs.Views.{SameView, overwritten}
use Rattle.prefix_tree.specs.Trees.{PermTree, TreeMeans, view_of_tree}
use Rattle.prefix_tree.proofs.Meant.{means_along, perm_in-means}
use Rattle.enclave_table.specs.Fewest.{IsListOf, FitsIn, NeedsMore}

pub means_same : (view other : View) (entries : List Entry) → SameView view other → Means entries view → Means entries other
means_same view other entries same means = λ a aligned inside mode. rw (← same (a.address / 4096) (omega (arith, inside))) (means a aligned inside mode)

pub fewest_same : (view other : View) (entries : List Entry) → SameView view other → IsFewest view entries → IsFewest other entries
fewest_same view other entries same fewest =
    record {
      means = means_same view other entries same fewest.means;
      least = λ others means. fewest.least others (means_same other view others (λ page inside. sym (same page inside)) means);
    }

-- a view needs as many entries as its fewest are
pub needs_of : (view : View) (entries : List Entry) → IsFewest view entries → Needs view (length entries)
needs_of view entries fewest = record { entries = entries; fewest = fewest; count = refl }

pub needs_same : (view other : View) (n : ℕ) → SameView view other → Needs view n → Needs other n
needs_same view other n same needs =
    record {
      entries = needs.entries;
      fewest = fewest_same view other needs.entries same needs.fewest;
      count = needs.count;
    }

pub list_same : (limit : Limit) (view other : View) (entries : List Entry) → SameView view other → IsListOf limit view entries → IsListOf limit other entries
list_same limit view other entries same list =
    record {
      fewest = fewest_same view other entries same list.fewest;
      room = list.room;
    }

pub fits_same : (limit : Limit) (view other : View) → SameView view other → FitsIn limit view → FitsIn limit other
fits_same limit view other same fits = (fits.0, needs_same view other fits.0 same fits.1, fits.2)

pub more_same : (limit : Limit) (view other : View) → SameView view other → NeedsMore limit view → NeedsMore limit other
more_same limit view other same more = (more.0, needs_same view other more.0 same more.1, more.2)

pub tree_same : (view other : View) (tree : PermTree) → SameView view other → TreeMeans view tree → TreeMeans other tree
tree_same view other tree same means = means_along view other 44 0 tree (λ i h. at i h) means
  where
    at : (i : ℕ) → i < 2 ^ 44 → view (0 + i) ≡ other (0 + i)
    at i h =
        let e : 0 + i ≡ i = omega arith in
        ap view e ∙ same i h ∙ sym (ap other e)

-- the view of a tree is the view that it means
pub tree_view : (view : View) (tree : PermTree) → TreeMeans view tree → SameView (view_of_tree tree) view
tree_view view tree means page inside =
    let e : 0 + page ≡ page = omega arith in
    perm_in-means view 44 0 tree means page inside ∙ ap view e

pub overwritten_same : (view other : View) (first count : ℕ) (perm : Perm) → SameView view other
    → SameView (overwritten view first count perm) (overwritten other first count perm)
overwritten_same view other first count perm same = λ page inside. ap (λ p. cond (in_range first count page) perm p) (same page inside)

-- the tree of a tree's view overwritten is one of the view overwritten
pub tree_overwritten :
    (view : View) (tree new : PermTree) (first count : ℕ) (perm : Perm) → TreeMeans view tree → TreeMeans (overwritten (view_of_tree tree) first count perm) new
    → TreeMeans (overwritten view first count perm) new
tree_overwritten view tree new first count perm means overwrites =
    tree_same (overwritten (view_of_tree tree) first count perm) (overwritten view first count perm) new
    (overwritten_same (view_of_tree tree) view first count perm (tree_view view tree means)) overwrites
