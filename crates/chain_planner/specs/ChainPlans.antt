-- The lists that the placed entries make, and the beginning of a plan's chain.
use Rattle.std.specs.Prelude.{◌≡◌, ℕ, ◌+◌, ◌/◌, ◌%◌, ◌^◌, ◌<◌, List, [], ◌∷◌, ◌++◌, None}
use Rattle.pmp_encoding.specs.declared.perm.Perm.{Perm}
use Rattle.pmp_encoding.specs.declared.perm.Perm.TheVariants.{NoAccess}
use Rattle.pmp_encoding.specs.declared.region.Entry.{Entry}
use Rattle.prefix_tree.specs.Trees.{PermTree}
use Rattle.prefix_tree.specs.Coding.{perm_of}
use Rattle.prefix_tree.specs.Counts.{first_perm, last_perm}
use Rattle.chain_planner.specs.declared.chain_plan.ChainPlan.{ChainPlan}
use Rattle.chain_planner.specs.declared.chain_plan.Kind.{Kind}
use Rattle.chain_planner.specs.declared.chain_plan.Kind.TheVariants.{Alone, Passes, Begins}
use Rattle.chain_planner.specs.declared.turns.Turn.{Turn}
use Rattle.chain_planner.specs.ChainCosts.{change, through, begins, changes_in}
use Rattle.chain_planner.specs.ChainCosts.{passed, chained_cost}
use Rattle.chain_planner.specs.Chained.{Chained}
use Rattle.chain_planner.specs.Placed.{IsPassed, IsBegun}
use Rattle.chain_planner.specs.Turns.{turns_in, tops_from, base_of, tops_of}

-- the list of a plan
abbrev pub list_of : ChainPlan → Chained
list_of plan = record { blocks = plan.blocks.items; off = plan.off; tops = plan.tops.items }

-- a chain that is the whole list
abbrev pub alone_list : ℕ → PermTree → Chained
alone_list k tree = record {
  blocks = [];
  off = None;
  tops = tops_from (first_perm tree) (turns_in k 0 (first_perm tree) tree);
}

-- entries, and a chain that begins with an OFF entry and has p at address 0
abbrev pub passed_list : List Entry → Perm → List Turn → Chained
passed_list es p turns = record { blocks = es; off = base_of p turns; tops = tops_of p turns }

-- entries, and a chain that begins under the last
abbrev pub begun_list : List Entry → Entry → Perm → List Turn → Chained
begun_list es e b turns = record { blocks = es ++ e ∷ []; off = None; tops = tops_from b turns }

-- the list is of that kind, with the entries and changes that are placed in the tree of 2 ^ k pages
abbrev pub IsAlone : ℕ → PermTree → Chained → Type 0
IsAlone k tree list = list ≡ alone_list k tree

abbrev pub IsPassing : ℕ → Perm → PermTree → Chained → Type 0
IsPassing k p tree list = (es : List Entry) × (turns : List Turn)
    × IsPassed k 0 p NoAccess tree es turns × (list ≡ passed_list es p turns)

abbrev pub IsBeginning : ℕ → PermTree → Chained → Type 0
IsBeginning k tree list = (es : List Entry) × (e : Entry) × (b : Perm) × (turns : List Turn)
    × IsBegun k 0 NoAccess tree es e b turns × (list ≡ begun_list es e b turns)

-- the way to begin is the cheapest
abbrev pub IsKind : ℕ → PermTree → Kind → Type 0
IsKind place tree Alone = (place ≡ 0) × (last_perm tree ≡ NoAccess)
    × (chained_cost place tree ≡ changes_in tree)
IsKind place tree (Passes p) = chained_cost place tree ≡ change NoAccess p + through tree p NoAccess
IsKind place tree Begins = chained_cost place tree ≡ begins tree NoAccess

-- eight times the cost of the cheapest chain that begins with an OFF entry, plus the place of its
-- permission at address 0
abbrev pub IsPassedKey : PermTree → ℕ → Type 0
IsPassedKey tree key = (key / 8 ≡ passed tree)
    × (change NoAccess (perm_of (key % 8)) + through tree (perm_of (key % 8)) NoAccess
    ≡ passed tree)
    × (key < 2 ^ 30)
