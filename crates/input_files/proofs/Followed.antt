-- Settings that are followed one after another.
use Rattle.std.proofs.Common.{◌≡◌, ◌∙◌, ◌<◌, ◌≤◌, ℕ, List, [], ◌∷◌, ◌++◌, arith, inl, inr, length, refl, subst, sym}
use Rattle.permission_map.specs.declared.runs.Run.{Run}
use Rattle.permission_map.specs.Overwrite.{AreOverwritten}
use Rattle.permission_map.proofs.Determined.{determined}
use Rattle.pmp_encoding.specs.declared.perm.Perm.{Perm}
use Rattle.input_files.specs.declared.idle_lines.Numbered.{Numbered}
use Rattle.input_files.specs.Settings.{IsTooManyAfter, SetTo}

pub set_both : (kept rest : List Numbered) (before middle after : List Run) → SetTo before kept middle → SetTo middle rest after
    → SetTo before (kept ++ rest) after
set_both [] rest before middle after e more = rw (sym e) more
set_both (numbered ∷ kept) rest before middle after first more = (first.0, first.1, set_both kept rest first.0 middle after first.2 more)

pub many_first : (n : ℕ) (kept rest : List Numbered) (before : List Run) → IsTooManyAfter n before kept → IsTooManyAfter n before (kept ++ rest)
many_first n [] rest before many = absurd many
many_first n (numbered ∷ kept) rest before (inl many) = inl many
many_first n (numbered ∷ kept) rest before (inr many) = inr (many.0, many.1, many_first n kept rest many.0 many.2)

pub many_last : (n : ℕ) (kept rest : List Numbered) (before middle : List Run) → SetTo before kept middle → IsTooManyAfter n middle rest
    → IsTooManyAfter n before (kept ++ rest)
many_last n [] rest before middle e many = rw (sym e) many
many_last n (numbered ∷ kept) rest before middle first many = inr (first.0, first.1, many_last n kept rest first.0 middle first.2 many)

-- settings before others lead to a map where all do
pub set_first : (kept rest : List Numbered) (before after : List Run) → SetTo before (kept ++ rest) after → (middle : List Run) × SetTo before kept middle
set_first [] rest before after set = (before, refl)
set_first (numbered ∷ kept) rest before after set =
    let more = set_first kept rest set.0 after set.2 in
    (more.0, (set.0, set.1, more.1))

-- one range overwritten gives one list of runs
one_way : (old : List Run) (first count : ℕ) (perm : Perm) (xs ys : List Run) → AreOverwritten old first count perm xs → AreOverwritten old first count perm ys
    → xs ≡ ys
one_way old first count perm xs ys x y = determined xs ys x.are_runs y.are_runs (λ page small. x.view_is page small ∙ sym (y.view_is page small))

few : (xs ys : List Run) → xs ≡ ys → length xs ≤ 4096 → 4096 < length ys → ⊥
few xs ys e small many = omega (arith, subst (λ (zs : List Run). length zs ≤ 4096) e small, many)

-- settings that lead to a map never make too many ranges
pub never_many : (n : ℕ) (settings : List Numbered) (before after : List Run) → SetTo before settings after → ¬ IsTooManyAfter n before settings
never_many n [] before after set many = many
never_many n (numbered ∷ settings) before after set (inl many) =
    few set.0 many.1.runs (one_way before numbered.setting.first numbered.setting.count numbered.setting.perm set.0 many.1.runs set.1.overwritten
    many.1.overwritten) set.1.most many.1.many
never_many n (numbered ∷ settings) before after set (inr many) =
    let same = one_way before numbered.setting.first numbered.setting.count numbered.setting.perm set.0 many.0 set.1.overwritten many.1.overwritten in
    never_many n settings many.0 after (subst (λ (xs : List Run). SetTo xs settings after) same set.2) many.2
