-- The changes of a chain's permission, page by page.
use Rattle.std.specs.Prelude.{ℕ, zero, suc, ◌+◌, ◌*◌, ◌^◌, ◌<◌, ◌≤◌, ⊤, List, [], ◌∷◌, ◌++◌, nat_lt}
use Rattle.std.specs.Prelude.{if◌then◌else◌, Option, None, Some}
use Rattle.pmp_encoding.specs.declared.perm.Perm.{Perm}
use Rattle.pmp_encoding.specs.declared.perm.Perm.TheVariants.{NoAccess}
use Rattle.pmp_encoding.specs.Perms.{perm_eq}
use Rattle.prefix_tree.specs.Trees.{PermTree, Uniform, Split}
use Rattle.prefix_tree.specs.Counts.{last_perm}
use Rattle.chain_planner.specs.declared.tops.Top.{Top}
use Rattle.chain_planner.specs.declared.turns.Turn.{Turn}

-- the permission at a page of a chain that has p before its first change
abbrev pub turn_at : Perm → List Turn → ℕ → Perm
turn_at p [] page = p
turn_at p (turn ∷ turns) page = if nat_lt page turn.page then p else turn_at turn.perm turns page

-- the permission of a chain after its last change
abbrev pub last_turn : Perm → List Turn → Perm
last_turn p [] = p
last_turn p (turn ∷ turns) = last_turn turn.perm turns

-- the changes are by rising page, from one page on and before another
abbrev pub TurnsWithin : ℕ → ℕ → List Turn → Type 0
TurnsWithin first end [] = ⊤
TurnsWithin first end (turn ∷ turns) = (first ≤ turn.page) × (turn.page < end)
    × TurnsWithin turn.page end turns

-- the change at a page from m to n, where they differ
abbrev pub turn_to : ℕ → Perm → Perm → List Turn
turn_to page m n = if perm_eq m n then [] else record { page = page; perm = n } ∷ []

-- the changes of a chain that follows the 2 ^ k pages from `first` on, and has p before them
abbrev pub turns_in : ℕ → ℕ → Perm → PermTree → List Turn
turns_in k first p (Uniform v) = turn_to first p v
turns_in zero first p (Split lower upper) = []
turns_in (suc k) first p (Split lower upper) = turns_in k first p lower
    ++ turns_in k (first + 2 ^ k) (last_perm lower) upper

-- the TOR entries of a chain: each change is the top of one, of the permission before it
abbrev pub tops_from : Perm → List Turn → List Top
tops_from p [] = []
tops_from p (turn ∷ turns) =
    record { address = turn.page * 1024; perm = p } ∷ tops_from turn.perm turns

-- the address register of the first change
abbrev pub first_of : List Turn → Option ℕ
first_of [] = None
first_of (turn ∷ turns) = Some (turn.page * 1024)

-- the TOR entries after the first change
abbrev pub tops_behind : List Turn → List Top
tops_behind [] = []
tops_behind (turn ∷ turns) = tops_from turn.perm turns

-- the OFF entry of a chain that has p at address 0: its address is 0, or that of the first change
-- if p is no access
abbrev pub base_of : Perm → List Turn → Option ℕ
base_of p turns = if perm_eq NoAccess p then first_of turns else Some 0

-- the TOR entries after that OFF entry
abbrev pub tops_of : Perm → List Turn → List Top
tops_of p turns = if perm_eq NoAccess p then tops_behind turns else tops_from p turns
