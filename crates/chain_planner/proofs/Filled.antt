-- The entries and changes placed in a block give its pages the view's permissions, and are as many as its costs.
use Rattle.std.proofs.Common.{◌≡◌, ℕ, suc, ◌+◌, ◌-◌, ◌*◌, ◌^◌, ◌<◌, ◌≤◌, inl, inr, ⊎_elim, List, [], ◌∷◌, ◌++◌, true, cond, refl, sym, ap, ◌∙◌, arith, length, nat_lt, pow_pos, pow-suc}
use Rattle.std.proofs.lemmas.Bool.{cases_lt, lt-ltb, le-ltb}
use Rattle.std.proofs.lemmas.List.{length-append, append_assoc}
use Rattle.pmp_encoding.specs.declared.perm.Perm.{Perm}
use Rattle.pmp_encoding.specs.declared.perm.Perm.TheVariants.{NoAccess}
use Rattle.pmp_encoding.specs.declared.region.Entry.{Entry}
use Rattle.pmp_encoding.specs.Views.{View}
use Rattle.pmp_match.specs.Bytes.{holds_byte, perm_at}
use Rattle.pmp_match.proofs.Blocks.{pages_bytes}
use Rattle.pmp_match.proofs.Least.{holds_from}
use Rattle.prefix_tree.specs.Trees.{PermTree, Split, TreeMeansAt}
use Rattle.entry_planner.specs.Placement.{IsBlockOf}
use Rattle.entry_planner.proofs.Placements.{IsPlacedAt}
use Rattle.entry_planner.proofs.Placed.{IsPart, AreParts, All_append, All_weaker, outside, perm_at-append, placed_within, placed_count, placed_serves}
use Rattle.entry_planner.proofs.SamePerm.{perm_eq-same}
use Rattle.chain_planner.specs.declared.turns.Turn.{Turn}
use Rattle.chain_planner.specs.ChainCosts.{covered, through, begins}
use Rattle.chain_planner.specs.Placed.{IsCover, IsPassed, follows, covers, halves, covers_halves, IsBegun, under, under_halves, in_lower, in_upper}
use Rattle.chain_planner.specs.Turns.{turn_at, last_turn, TurnsWithin, turn_to}
use Rattle.chain_planner.proofs.TurnLists.{to_last, to_length, to_within, both, both_within, both_last, both_low, both_high, both_length}

-- ---- one entry

block_size : (k first : ℕ) (q : Perm) (e : Entry) → IsBlockOf k first q e → 2 ^ e.region.log2 ≡ 2 ^ k * 4096
block_size k first q e block = ap (λ j. 2 ^ j) block.size ∙ pages_bytes k

block_part : (k first : ℕ) (q : Perm) (e : Entry) → IsBlockOf k first q e → IsPart first k e
block_part k first q e block =
    let size = block_size k first q e block in
    ((omega (arith, block.base), omega (arith, block.base, size)), omega (arith, block.size))

one_gives : (k first : ℕ) (p q : Perm) (e : Entry) (page : ℕ) → IsBlockOf k first q e → first ≤ page → page < first + 2 ^ k
    → perm_at p (e ∷ []) (page * 4096) ≡ q
one_gives k first p q e page block low high =
    let size = block_size k first q e block in
    let held : holds_byte e.region (page * 4096) ≡ true =
    holds_from e.region (page * 4096) (omega (arith, block.base, low)) (omega (arith, block.base, size, high)) in
    ap (λ t. cond t e.perm p) held ∙ block.perm

-- ---- halves

lower_parts : (k first : ℕ) (es : List Entry) → AreParts first k es → AreParts first (suc k) es
lower_parts k first es parts =
    let double : 2 ^ suc k ≡ 2 ^ k * 2 = pow-suc 2 k in
    All_weaker (IsPart first k) (IsPart first (suc k)) (λ e h. ((h.0.0, omega (arith, h.0.1, double)), h.1)) es parts

upper_parts : (k first : ℕ) (es : List Entry) → AreParts (first + 2 ^ k) k es → AreParts first (suc k) es
upper_parts k first es parts =
    let double : 2 ^ suc k ≡ 2 ^ k * 2 = pow-suc 2 k in
    All_weaker (IsPart (first + 2 ^ k) k) (IsPart first (suc k)) (λ e h. ((omega (arith, h.0.0), omega (arith, h.0.1, double)), h.1)) es parts

-- the entries of the other half do not count
without_upper : (k first page : ℕ) (p : Perm) (low high : List Entry) → AreParts (first + 2 ^ k) k high → page < first + 2 ^ k
    → perm_at p (low ++ high) (page * 4096) ≡ perm_at p low (page * 4096)
without_upper k first page p low high parts left =
    perm_at-append p low high (page * 4096)
    ∙ ap (λ q. perm_at q low (page * 4096)) (outside k (first + 2 ^ k) p high (page * 4096) parts (inl (omega (arith, left))))

without_lower : (k first page : ℕ) (p : Perm) (low high : List Entry) → AreParts first k low → first + 2 ^ k ≤ page
    → perm_at p (low ++ high) (page * 4096) ≡ perm_at p high (page * 4096)
without_lower k first page p low high parts right =
    perm_at-append p low high (page * 4096)
    ∙ outside k first (perm_at p high (page * 4096)) low (page * 4096) parts (inr (omega (arith, right)))

placed_gives : (view : View) (tree : PermTree) (k first page : ℕ) (p : Perm) (es : List Entry) → TreeMeansAt view k first tree
    → IsPlacedAt k first p tree es → first ≤ page → page < first + 2 ^ k → perm_at p es (page * 4096) ≡ view page
placed_gives view tree k first page p es means placed low high =
    let here : first + (page - first) ≡ page = omega (arith, low) in
    let at : perm_at p es ((first + (page - first)) * 4096) ≡ view (first + (page - first)) =
    placed_serves view tree k first p es means placed (page - first) (omega (arith, low, high)) in
    rw here at at

-- ---- an entry of the whole block under those of its halves

record Covers (view : View) (k first : ℕ) (lower upper : PermTree) (low high : List Entry) (e : Entry) : Type 0 where
  lows : AreParts first k low
  highs : AreParts (first + 2 ^ k) k high
  part : IsPart first (suc k) e
  end : e.region.base + 2 ^ e.region.log2 ≡ (first + 2 ^ suc k) * 4096
  gives : (p : Perm) (page : ℕ) → first ≤ page → page < first + 2 ^ suc k → perm_at p (low ++ (high ++ e ∷ [])) (page * 4096) ≡ view page
  count : length low + length high + 1 ≡ covered lower upper

cover_facts :
    (view : View) (k first : ℕ) (lower upper : PermTree) (low high : List Entry) (e : Entry) → TreeMeansAt view (suc k) first (Split lower upper)
    → IsCover k first lower upper low high e
    → Covers view k first lower upper low high e
cover_facts view k first lower upper low high e means cover = record {
  lows = placed_within lower k first cover.perm low cover.lows;
  highs = placed_within upper k (first + 2 ^ k) cover.perm high cover.highs;
  part = block_part (suc k) first cover.perm e cover.block;
  end = (let size = block_size (suc k) first cover.perm e cover.block in omega (arith, cover.block.base, size));
  gives = gives;
  count =
      (let a = placed_count lower k first cover.perm low cover.lows in
      let b = placed_count upper k (first + 2 ^ k) cover.perm high cover.highs in
      omega (arith, a, b, cover.least));
}
  where
    gives : (p : Perm) (page : ℕ) → first ≤ page → page < first + 2 ^ suc k → perm_at p (low ++ (high ++ e ∷ [])) (page * 4096) ≡ view page
    gives p page from to =
        let double : 2 ^ suc k ≡ 2 ^ k * 2 = pow-suc 2 k in
        let under : perm_at p (e ∷ []) (page * 4096) ≡ cover.perm = one_gives (suc k) first p cover.perm e page cover.block from to in
        let over : perm_at p (high ++ e ∷ []) (page * 4096) ≡ perm_at cover.perm high (page * 4096) =
        perm_at-append p high (e ∷ []) (page * 4096) ∙ ap (λ q. perm_at q high (page * 4096)) under in
        let all : perm_at p (low ++ (high ++ e ∷ [])) (page * 4096) ≡ perm_at (perm_at cover.perm high (page * 4096)) low (page * 4096) =
        perm_at-append p low (high ++ e ∷ []) (page * 4096) ∙ ap (λ q. perm_at q low (page * 4096)) over in
        ⊎_elim
        (λ left.
        all
        ∙ ap (λ q. perm_at q low (page * 4096))
        (outside k (first + 2 ^ k) cover.perm high (page * 4096) (placed_within upper k (first + 2 ^ k) cover.perm high cover.highs)
        (inl (omega (arith, left))))
        ∙ placed_gives view lower k first page cover.perm low means.0 cover.lows from left)
        (λ right.
        all
        ∙ outside k first (perm_at cover.perm high (page * 4096)) low (page * 4096) (placed_within lower k first cover.perm low cover.lows)
        (inr (omega (arith, right)))
        ∙ placed_gives view upper k (first + 2 ^ k) page cover.perm high means.1 cover.highs right (omega (arith, to, double)))
        (cases_lt page (first + 2 ^ k))

-- ---- a chain that passes

pub record Passes (view : View) (k first : ℕ) (p q : Perm) (tree : PermTree) (es : List Entry) (turns : List Turn) : Type 0 where
  pub parts : AreParts first k es
  pub within : TurnsWithin first (first + 2 ^ k) turns
  pub last : last_turn p turns ≡ q
  pub gives : (page : ℕ) → first ≤ page → page < first + 2 ^ k → perm_at (turn_at p turns page) es (page * 4096) ≡ view page
  pub count : length es + length turns ≡ through tree p q

pub passed_facts :
    (view : View) (tree : PermTree) (k first : ℕ) (p q : Perm) (es : List Entry) (turns : List Turn) → TreeMeansAt view k first tree
    → IsPassed k first p q tree es turns
    → Passes view k first p q tree es turns
passed_facts view _ k first _ _ _ _ means (follows {v = v}) = record {
  parts = tt;
  within = tt;
  last = refl;
  gives = λ page low high.
      (let here : first + (page - first) ≡ page = omega (arith, low) in
      let at : view (first + (page - first)) ≡ v = means (page - first) (omega (arith, low, high)) in
      sym at ∙ ap view here);
  count = rw (perm_eq-same v) refl;
}
passed_facts view _ k first p q _ _ means (covers {v = v} {e = e} block least) = record {
  parts = (block_part k first v e block, tt);
  within = to_within first first (first + 2 ^ k) p q (omega arith) (let some : 0 < 2 ^ k = pow_pos k in omega arith);
  last = to_last first p q;
  gives = λ page low high.
      (let here : first + (page - first) ≡ page = omega (arith, low) in
      let at : view (first + (page - first)) ≡ v = means (page - first) (omega (arith, low, high)) in
      one_gives k first (turn_at p (turn_to first p q) page) v e page block low high ∙ sym at ∙ ap view here);
  count = (let n = to_length first p q in omega (arith, n, least));
}
passed_facts view _ _ first p q _ _ means
    (halves {k = k} {m = m} {n = n} {lower = lower} {upper = upper} {low = low} {high = high} {before = before} {behind = behind} a b least) =
    let double : 2 ^ suc k ≡ 2 ^ k * 2 = pow-suc 2 k in
    let lo : Passes view k first p m lower low before = passed_facts view lower k first p m low before means.0 a in
    let hi : Passes view k (first + 2 ^ k) n q upper high behind = passed_facts view upper k (first + 2 ^ k) n q high behind means.1 b in
    record {
      parts = All_append (IsPart first (suc k)) low high (lower_parts k first low lo.parts) (upper_parts k first high hi.parts);
      within = both_within k first first m n before behind (omega arith) lo.within hi.within;
      last = both_last k first p m n before behind lo.last ∙ hi.last;
      gives = λ page from to.
          ⊎_elim
          (λ left.
          without_upper k first page (turn_at p (both k first m n before behind) page) low high hi.parts left
          ∙ ap (λ r. perm_at r low (page * 4096)) (both_low k first page p m n before behind hi.within left)
          ∙ lo.gives page from left)
          (λ right.
          without_lower k first page (turn_at p (both k first m n before behind) page) low high lo.parts right
          ∙ ap (λ r. perm_at r high (page * 4096)) (both_high k first first page p m n before behind lo.within lo.last right)
          ∙ hi.gives page right (omega (arith, to, double)))
          (cases_lt page (first + 2 ^ k));
      count = (let s = length-append low high in let t = both_length k first m n before behind in omega (arith, s, t, lo.count, hi.count, least));
    }
passed_facts view _ _ first p q _ _ means (covers_halves {k = k} {lower = lower} {upper = upper} low high e cover least) =
    let double : 2 ^ suc k ≡ 2 ^ k * 2 = pow-suc 2 k in
    let c : Covers view k first lower upper low high e = cover_facts view k first lower upper low high e means cover in
    record {
      parts =
          All_append (IsPart first (suc k)) low (high ++ e ∷ []) (lower_parts k first low c.lows)
          (All_append (IsPart first (suc k)) high (e ∷ []) (upper_parts k first high c.highs) (c.part, tt));
      within = to_within first first (first + 2 ^ suc k) p q (omega arith) (let some : 0 < 2 ^ suc k = pow_pos (suc k) in omega arith);
      last = to_last first p q;
      gives = λ page from to. c.gives (turn_at p (turn_to first p q) page) page from to;
      count =
          (let n = to_length first p q in
          let s = length-append low (high ++ e ∷ []) in
          let t = length-append high (e ∷ []) in
          omega (arith, n, s, t, c.count, least));
    }

-- ---- a chain that begins under an entry

-- what it gives: no access in the pages before the end of that entry
abbrev pub begun_at : ℕ → Perm → List Turn → ℕ → Perm
begun_at end b turns page = cond (nat_lt page end) NoAccess (turn_at b turns page)

pub record Begins (view : View) (k first : ℕ) (q : Perm) (tree : PermTree) (es : List Entry) (e : Entry) (b : Perm) (turns : List Turn) : Type 0 where
  pub end : ℕ
  pub ends : e.region.base + 2 ^ e.region.log2 ≡ end * 4096
  pub parts : AreParts first k es
  pub part : IsPart first k e
  pub within : TurnsWithin end (first + 2 ^ k) turns
  pub last : last_turn b turns ≡ q
  pub gives : (page : ℕ) → first ≤ page → page < first + 2 ^ k → perm_at (begun_at end b turns page) (es ++ e ∷ []) (page * 4096) ≡ view page
  pub count : length es + 1 + length turns ≡ begins tree q

pub begun_facts :
    (view : View) (tree : PermTree) (k first : ℕ) (q : Perm) (es : List Entry) (e : Entry) (b : Perm) (turns : List Turn) → TreeMeansAt view k first tree
    → IsBegun k first q tree es e b turns
    → Begins view k first q tree es e b turns
begun_facts view _ k first q _ e _ _ means (under {v = v} block) = record {
  end = first + 2 ^ k;
  ends = (let size = block_size k first v e block in omega (arith, block.base, size));
  parts = tt;
  part = block_part k first v e block;
  within = tt;
  last = refl;
  gives = λ page low high.
      (let here : first + (page - first) ≡ page = omega (arith, low) in
      let at : view (first + (page - first)) ≡ v = means (page - first) (omega (arith, low, high)) in
      one_gives k first (begun_at (first + 2 ^ k) q [] page) v e page block low high ∙ sym at ∙ ap view here);
  count = refl;
}
begun_facts view _ _ first q _ e _ _ means (under_halves {k = k} {lower = lower} {upper = upper} low high cover least) =
    let c : Covers view k first lower upper low high e = cover_facts view k first lower upper low high e means cover in
    record {
      end = first + 2 ^ suc k;
      ends = c.end;
      parts = All_append (IsPart first (suc k)) low high (lower_parts k first low c.lows) (upper_parts k first high c.highs);
      part = c.part;
      within = tt;
      last = refl;
      gives = λ page from to.
          ap (λ es. perm_at (begun_at (first + 2 ^ suc k) q [] page) es (page * 4096)) (append_assoc low high (e ∷ []))
          ∙ c.gives (begun_at (first + 2 ^ suc k) q [] page) page from to;
      count = (let s = length-append low high in omega (arith, s, c.count, least));
    }
begun_facts view _ _ first q _ e b _ means
    (in_lower {k = k} {m = m} {n = n} {lower = lower} {upper = upper} {low = low} {high = high} {before = before} {behind = behind} x y least) =
    let double : 2 ^ suc k ≡ 2 ^ k * 2 = pow-suc 2 k in
    let lo : Begins view k first m lower low e b before = begun_facts view lower k first m low e b before means.0 x in
    let hi : Passes view k (first + 2 ^ k) n q upper high behind = passed_facts view upper k (first + 2 ^ k) n q high behind means.1 y in
    let early : lo.end ≤ first + 2 ^ k = omega (arith, lo.part.0.1, lo.ends) in
    record {
      end = lo.end;
      ends = lo.ends;
      parts = All_append (IsPart first (suc k)) low high (lower_parts k first low lo.parts) (upper_parts k first high hi.parts);
      part = (lower_parts k first (e ∷ []) (lo.part, tt)).0;
      within = both_within k first lo.end m n before behind early lo.within hi.within;
      last = both_last k first b m n before behind lo.last ∙ hi.last;
      gives = λ page from to.
          (let P : Perm = begun_at lo.end b (both k first m n before behind) page in
          ⊎_elim
          (λ left.
          perm_at-append P (low ++ high) (e ∷ []) (page * 4096)
          ∙ without_upper k first page (perm_at P (e ∷ []) (page * 4096)) low high hi.parts left
          ∙ sym (perm_at-append P low (e ∷ []) (page * 4096))
          ∙ ap (λ r. perm_at (cond (nat_lt page lo.end) NoAccess r) (low ++ e ∷ []) (page * 4096))
          (both_low k first page b m n before behind hi.within left)
          ∙ lo.gives page from left)
          (λ right.
          let begun : begun_at lo.end b (both k first m n before behind) page ≡ turn_at n behind page =
          ap (λ t. cond t NoAccess (turn_at b (both k first m n before behind) page)) (le-ltb page lo.end (omega (arith, early, right)))
          ∙ both_high k first lo.end page b m n before behind lo.within lo.last right in
          perm_at-append P (low ++ high) (e ∷ []) (page * 4096)
          ∙ ap (λ r. perm_at r (low ++ high) (page * 4096)) (outside k first P (e ∷ []) (page * 4096) (lo.part, tt) (inr (omega (arith, right))))
          ∙ without_lower k first page P low high lo.parts right
          ∙ ap (λ r. perm_at r high (page * 4096)) begun
          ∙ hi.gives page right (omega (arith, to, double)))
          (cases_lt page (first + 2 ^ k)));
      count = (let s = length-append low high in let t = both_length k first m n before behind in omega (arith, s, t, lo.count, hi.count, least));
    }
begun_facts view _ _ first q _ e b turns means (in_upper {k = k} {lower = lower} {upper = upper} low {high = high} x y least) =
    let double : 2 ^ suc k ≡ 2 ^ k * 2 = pow-suc 2 k in
    let lows : AreParts first k low = placed_within lower k first NoAccess low x in
    let hi : Begins view k (first + 2 ^ k) q upper high e b turns = begun_facts view upper k (first + 2 ^ k) q high e b turns means.1 y in
    let late : first + 2 ^ k ≤ hi.end = omega (arith, hi.part.0.0, hi.ends) in
    record {
      end = hi.end;
      ends = hi.ends;
      parts = All_append (IsPart first (suc k)) low high (lower_parts k first low lows) (upper_parts k first high hi.parts);
      part = (upper_parts k first (e ∷ []) (hi.part, tt)).0;
      within = both_ends k first hi.end turns double hi.within;
      last = hi.last;
      gives = λ page from to.
          (let P : Perm = begun_at hi.end b turns page in
          ⊎_elim
          (λ left.
          perm_at-append P (low ++ high) (e ∷ []) (page * 4096)
          ∙ ap (λ r. perm_at r (low ++ high) (page * 4096)) (outside k (first + 2 ^ k) P (e ∷ []) (page * 4096) (hi.part, tt) (inl (omega (arith, left))))
          ∙ without_upper k first page P low high hi.parts left
          ∙ ap (λ t. perm_at (cond t NoAccess (turn_at b turns page)) low (page * 4096)) (lt-ltb page hi.end (omega (arith, late, left)))
          ∙ placed_gives view lower k first page NoAccess low means.0 x from left)
          (λ right.
          perm_at-append P (low ++ high) (e ∷ []) (page * 4096)
          ∙ without_lower k first page (perm_at P (e ∷ []) (page * 4096)) low high lows right
          ∙ sym (perm_at-append P high (e ∷ []) (page * 4096))
          ∙ hi.gives page right (omega (arith, to, double)))
          (cases_lt page (first + 2 ^ k)));
      count =
          (let s = length-append low high in
          let a = placed_count lower k first NoAccess low x in
          omega (arith, s, a, hi.count, least));
    }
  where
    both_ends : (k first end : ℕ) (turns : List Turn) → 2 ^ suc k ≡ 2 ^ k * 2 → TurnsWithin end (first + 2 ^ k + 2 ^ k) turns
        → TurnsWithin end (first + 2 ^ suc k) turns
    both_ends k first end turns double within =
        let same : first + 2 ^ k + 2 ^ k ≡ first + 2 ^ suc k = omega (arith, double) in rw same at within
