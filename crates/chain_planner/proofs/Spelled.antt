-- Registers that hold a chained list mean what the list means.
use Rattle.std.proofs.Common.{◌≡◌, ℕ, zero, suc, ◌+◌, ◌-◌, ◌*◌, ◌^◌, ◌<◌, ◌≤◌, ◌↔◌, List, [], ◌∷◌, ◌++◌, length, Bool, true, false, cond, ◌==◌, Option, None, Some, IfSome}
use Rattle.std.proofs.Common.{refl, sym, ap, subst, ◌∙◌, arith}
use Rattle.std.specs.List.{AllByRecursion}
use Rattle.std.proofs.lemmas.Bool.{ne_eqb}
use Rattle.std.proofs.lemmas.List.{length-append, append_assoc}
use Rattle.pmp_encoding.specs.declared.extent.Extent.{Extent}
use Rattle.pmp_encoding.specs.declared.perm.Perm.{Perm}
use Rattle.pmp_encoding.specs.declared.perm.Perm.TheVariants.{NoAccess, Read, ReadWrite, Execute, ReadExecute, ReadWriteExecute}
use Rattle.pmp_encoding.specs.declared.region.Entry.{Entry}
use Rattle.pmp_encoding.specs.declared.xlen.Xlen.{Xlen}
use Rattle.pmp_encoding.specs.declared.xlen.Xlen.TheVariants.{Rv32, Rv64}
use Rattle.pmp_encoding.specs.Encoding.{MeansEntry, cfg_of, address_of}
use Rattle.pmp_encoding.specs.Extents.{extent_of}
use Rattle.pmp_encoding.specs.Perms.{bits_of}
use Rattle.pmp_encoding.specs.Views.{View}
use Rattle.pmp_encoding.specs.Widths.{address_bits, space_end, AreReached}
use Rattle.pmp_encoding.proofs.Pairs.{pair_is}
use Rattle.pmp_match.specs.declared.access.Access.{Access}
use Rattle.pmp_match.specs.declared.registers.Registers.{Registers}
use Rattle.pmp_match.specs.declared.smepmp.Security.{Security}
use Rattle.pmp_match.specs.Lists.{matched_by}
use Rattle.pmp_match.specs.Matching.{touches, grants, lets_through}
use Rattle.pmp_match.specs.RegisterDecision.{ExtentsMean, IsWords}
use Rattle.pmp_match.specs.RegisterMatching.{AreExtents, AreExtentsFrom, IsExtentAt, off, tor, kept, nowhere, tor_extent}
use Rattle.pmp_match.specs.RegisterMatching as registers_match
use Rattle.pmp_match.specs.Registers.{cfg_at, address_at, user_cfg_at}
use Rattle.pmp_match.specs.Smepmp.{user_cfg}
use Rattle.pmp_match.proofs.Instance.{entry_extent, off_untouched}
use Rattle.pmp_match.proofs.Matched.{each_words, one_list}
use Rattle.pmp_match.proofs.RegistersDecided.{not_machine, permits_from_test, test_from_permits}
use Rattle.pmp_match.proofs.Spaces.{kept_small, pair_high, reached_end, reached_rest}
use Rattle.chain_planner.specs.declared.tops.Top.{Top}
use Rattle.chain_planner.specs.Chained.{Chained, IsChained, offs, length_of, address_behind, bottom_by, matched_from, off_extents, extents_of, AreRising}
use Rattle.chain_planner.specs.Spelled.{block_pairs, off_pairs, top_pairs, HoldsFrom, Holds}
use Rattle.chain_planner.proofs.Means.{blocks_words, off_words, tops_words, width}

-- ---- one entry

-- an address of the width's bits is kept
kept_whole : (xlen : Xlen) (address : ℕ) → address < 2 ^ address_bits xlen → kept xlen address ≡ address
kept_whole Rv32 address small = omega (arith, small)
kept_whole Rv64 address small = omega (arith, small)

-- whatever `mseccfg` is, supervisor and user mode see the byte of a TOR entry as it is
tor_seen : (s : Security) (p : Perm) → user_cfg s (1 * 8 + bits_of p) ≡ 1 * 8 + bits_of p
tor_seen s p = go s.lockdown s.whitelist p
  where
    go : (a b : Bool) (p : Perm) → user_cfg (record { lockdown = a; whitelist = b }) (1 * 8 + bits_of p) ≡ 1 * 8 + bits_of p
    go true b NoAccess = refl
    go true b Read = refl
    go true b ReadWrite = refl
    go true b Execute = refl
    go true b ReadExecute = refl
    go true b ReadWriteExecute = refl
    go false b NoAccess = refl
    go false b Read = refl
    go false b ReadWrite = refl
    go false b Execute = refl
    go false b ReadExecute = refl
    go false b ReadWriteExecute = refl

off_seen : (s : Security) → user_cfg s 0 ≡ 0
off_seen s = go s.lockdown s.whitelist
  where
    go : (a b : Bool) → user_cfg (record { lockdown = a; whitelist = b }) 0 ≡ 0
    go true b = refl
    go false b = refl

off_at : (registers : Registers) (place : ℕ) → cfg_at registers place ≡ 0 → IsExtentAt registers place nowhere
off_at registers place is =
    off (record {
      perm = NoAccess;
      bits = ap (user_cfg registers.security) is ∙ off_seen registers.security;
      small = kept_small registers.xlen (address_at registers place);
    })

top_at : (registers : Registers) (place bottom : ℕ) (top : Top) → cfg_at registers place ≡ 1 * 8 + bits_of top.perm → address_at registers place ≡ top.address
    → top.address < 2 ^ address_bits registers.xlen → registers_match.bottom_of registers place ≡ bottom
    → IsExtentAt registers place (tor_extent bottom top.address top.perm)
top_at registers place bottom top cfg address small below =
    let end : kept registers.xlen (address_at registers place) ≡ top.address =
    ap (kept registers.xlen) address ∙ kept_whole registers.xlen top.address small in
    let seen : user_cfg_at registers place ≡ 1 * 8 + bits_of top.perm = ap (user_cfg registers.security) cfg ∙ tor_seen registers.security top.perm in
    subst (λ n. IsExtentAt registers place (tor_extent bottom n top.perm)) end
    (subst (λ n. IsExtentAt registers place (tor_extent n (kept registers.xlen (address_at registers place)) top.perm)) below (tor top.perm seen))

-- the entry after one begins at its address
next_bottom : (registers : Registers) (place address : ℕ) → address_at registers place ≡ address → address < 2 ^ address_bits registers.xlen
    → registers_match.bottom_of registers (place + 1) ≡ address
next_bottom registers place address is small =
    let back : place + 1 - 1 ≡ place = omega arith in
    let some : (place + 1 == 0) ≡ false = ne_eqb (place + 1) 0 (λ h. omega (arith, h)) in
    ap (λ t. cond t 0 (kept registers.xlen (address_at registers (place + 1 - 1)))) some
    ∙ ap (λ n. kept registers.xlen (address_at registers n)) back
    ∙ ap (kept registers.xlen) is
    ∙ kept_whole registers.xlen address small

-- ---- the entries of a list

more : (registers : Registers) (place n : ℕ) (xs : List Extent) → AreExtentsFrom registers (place + suc n) xs → AreExtentsFrom registers (place + 1 + n) xs
more registers place n xs are = let same : place + suc n ≡ place + 1 + n = omega arith in subst (λ m. AreExtentsFrom registers m xs) same are

tops_from_place :
    (registers : Registers) (tops : List Top) (place bottom least : ℕ) (xs : List Extent) → HoldsFrom registers place (top_pairs tops)
    → AreRising (address_bits registers.xlen) least tops
    → registers_match.bottom_of registers place ≡ bottom → AreExtentsFrom registers (place + length tops) xs
    → AreExtentsFrom registers place (matched_from bottom tops ++ xs)
tops_from_place registers [] place bottom least xs holds rising below are =
    let same : place + 0 ≡ place = omega arith in subst (λ m. AreExtentsFrom registers m xs) same are
tops_from_place registers (top ∷ tops) place bottom least xs holds rising below are = (
  top_at registers place bottom top holds.0 holds.1 rising.1 below,
  tops_from_place registers tops (place + 1) top.address top.address xs holds.2 rising.2 (next_bottom registers place top.address holds.1 rising.1)
      (more registers place (length tops) xs are),
)

address_small : (xlen : Xlen) (e : Entry) → e.region.base + 2 ^ e.region.log2 ≤ space_end xlen → address_of e < 2 ^ address_bits xlen
address_small xlen e near = let high = pair_high (cfg_of e) (address_of e) e (pair_is e) in omega (arith, high, near)

entry_at_place : (registers : Registers) (place : ℕ) (e : Entry) → cfg_at registers place ≡ cfg_of e → address_at registers place ≡ address_of e
    → e.region.base + 2 ^ e.region.log2 ≤ space_end registers.xlen → IsExtentAt registers place (extent_of e)
entry_at_place registers place e cfg address near =
    entry_extent registers place e
    (subst (λ n. MeansEntry n (address_at registers place) e) (sym cfg) (subst (λ n. MeansEntry (cfg_of e) n e) (sym address) (pair_is e))) near

blocks_from_place :
    (registers : Registers) (es : List Entry) (rest : List (ℕ × ℕ)) (place before : ℕ) (xs : List Extent) → HoldsFrom registers place (block_pairs es ++ rest)
    → AreReached registers.xlen es
    → registers_match.bottom_of registers place ≡ before
    → (registers_match.bottom_of registers (place + length es) ≡ address_behind before es → HoldsFrom registers (place + length es) rest
    → AreExtentsFrom registers (place + length es) xs)
    → AreExtentsFrom registers place (matched_by es ++ xs)
blocks_from_place registers [] rest place before xs holds near below are =
    let same : place ≡ place + 0 = omega arith in
    subst (λ m. AreExtentsFrom registers m xs) (sym same)
    (are (subst (λ m. registers_match.bottom_of registers m ≡ before) same below) (subst (λ m. HoldsFrom registers m rest) same holds))
blocks_from_place registers (e ∷ es) rest place before xs holds near below are =
    let same : place + suc (length es) ≡ place + 1 + length es = omega arith in
    let end : e.region.base + 2 ^ e.region.log2 ≤ space_end registers.xlen = reached_end registers.xlen e es near in (
      entry_at_place registers place e holds.0 holds.1 end,
      blocks_from_place registers es rest (place + 1) (address_of e) xs holds.2 (reached_rest registers.xlen e es near)
          (next_bottom registers place (address_of e) holds.1 (address_small registers.xlen e end))
          (λ at left.
          subst (λ m. AreExtentsFrom registers m xs) same
          (are (subst (λ m. registers_match.bottom_of registers m ≡ address_behind (address_of e) es) (sym same) at)
          (subst (λ m. HoldsFrom registers m rest) (sym same) left))),
    )

abbrev nothing : ℕ → List Extent
nothing zero = []
nothing (suc n) = nowhere ∷ nothing n

nothing_from : (registers : Registers) (n place : ℕ) → ((at : ℕ) → place ≤ at → at < place + n → cfg_at registers at ≡ 0)
    → AreExtentsFrom registers place (nothing n)
nothing_from registers zero place is = tt
nothing_from registers (suc n) place is = (
  off_at registers place (is place (omega arith) (omega arith)),
  nothing_from registers n (place + 1) (λ at low high. is at (omega (arith, low)) (omega (arith, high))),
)

-- the OFF entry and the TOR entries, after the blocks
chain_from_place :
    (registers : Registers) (off : Option ℕ) (tops : List Top) (es : List Entry) (place : ℕ) (xs : List Extent)
    → IfSome off (λ address. address < 2 ^ address_bits registers.xlen) → AreRising (address_bits registers.xlen) 0 tops
    → registers_match.bottom_of registers place ≡ address_behind 0 es → HoldsFrom registers place (off_pairs off ++ top_pairs tops)
    → AreExtentsFrom registers (place + (offs off + length tops)) xs
    → AreExtentsFrom registers place ((off_extents off ++ matched_from (bottom_by off es) tops) ++ xs)
chain_from_place registers None tops es place xs small rising below holds are =
    let same : place + (0 + length tops) ≡ place + length tops = omega arith in
    tops_from_place registers tops place (address_behind 0 es) 0 xs holds rising below (subst (λ m. AreExtentsFrom registers m xs) same are)
chain_from_place registers (Some address) tops es place xs small rising below holds are =
    let same : place + (1 + length tops) ≡ place + 1 + length tops = omega arith in (
      off_at registers place holds.0,
      tops_from_place registers tops (place + 1) address 0 xs holds.2 rising (next_bottom registers place address holds.1 small)
          (subst (λ m. AreExtentsFrom registers m xs) same are),
    )

nothing_length : (n : ℕ) → length (nothing n) ≡ n
nothing_length zero = refl
nothing_length (suc n) = ap suc (nothing_length n)

matched_length : (bottom : ℕ) (tops : List Top) → length (matched_from bottom tops) ≡ length tops
matched_length bottom [] = refl
matched_length bottom (top ∷ tops) = ap suc (matched_length top.address tops)

blocks_length : (es : List Entry) → length (matched_by es) ≡ length es
blocks_length [] = refl
blocks_length (e ∷ es) = ap suc (blocks_length es)

off_length : (off : Option ℕ) (xs : List Extent) → length (off_extents off ++ xs) ≡ offs off + length xs
off_length None xs = omega arith
off_length (Some address) xs = omega arith

pub held_extents : (registers : Registers) (list : Chained) → IsChained registers.xlen 0 list → Holds registers list
    → AreExtents registers (extents_of list ++ nothing (64 - length_of list))
held_extents registers list chained holds = record { count = count; each = each }
  where
    chain : List Extent
    chain = off_extents list.off ++ matched_from (bottom_by list.off list.blocks) list.tops

    count : length (extents_of list ++ nothing (64 - length_of list)) ≡ 64
    count =
        let a = length-append (extents_of list) (nothing (64 - length_of list)) in
        let b = length-append (matched_by list.blocks) chain in
        let c = off_length list.off (matched_from (bottom_by list.off list.blocks) list.tops) in
        let d = matched_length (bottom_by list.off list.blocks) list.tops in
        let e = nothing_length (64 - length_of list) in
        let f = blocks_length list.blocks in
        omega (arith, a, b, c, d, e, f, holds.room)

    end : ℕ
    end = 0 + length list.blocks + (offs list.off + length list.tops)

    after : AreExtentsFrom registers end (nothing (64 - length_of list))
    after = nothing_from registers (64 - length_of list) end (λ at low high. holds.rest at (omega (arith, low)) (omega (arith, high, holds.room)))

    each : AreExtentsFrom registers 0 (extents_of list ++ nothing (64 - length_of list))
    each =
        subst (λ xs. AreExtentsFrom registers 0 xs) (sym (append_assoc (matched_by list.blocks) chain (nothing (64 - length_of list))))
        (blocks_from_place registers list.blocks (off_pairs list.off ++ top_pairs list.tops) 0 0 (chain ++ nothing (64 - length_of list)) holds.entries
        chained.reached refl
        (λ below left.
        chain_from_place registers list.off list.tops list.blocks (0 + length list.blocks) (nothing (64 - length_of list)) chained.base chained.rising below
        left
        after))

-- ---- what they mean

without_nothing : (xs : List Extent) (n : ℕ) (a : Access) → lets_through (xs ++ nothing n) a ≡ lets_through xs a
without_nothing [] zero a = refl
without_nothing [] (suc n) a = ap (λ t. cond t (grants nowhere a) (lets_through (nothing n) a)) (off_untouched a) ∙ without_nothing [] n a
without_nothing (x ∷ xs) n a = ap (λ t. cond (touches x a) (grants x a) t) (without_nothing xs n a)

pub spelled_means : (registers : Registers) (list : Chained) (xs : List Extent) (view : View) → IsChained registers.xlen 0 list → Holds registers list
    → AreExtents registers xs
    → ExtentsMean xs view ↔ ExtentsMean (extents_of list) view
spelled_means registers list xs view chained holds are = (
  (λ means a aligned inside user.
      let w = means a aligned inside user in
      let here = not_machine a.mode user in (
        (λ p. w.0 (permits_from_test xs a here words (same a ∙ test_from_permits (extents_of list) a list_words p))),
        (λ h. permits_from_test (extents_of list) a here list_words (sym (same a) ∙ test_from_permits xs a words (w.1 h))),
      )),
  (λ means a aligned inside user.
      let w = means a aligned inside user in
      let here = not_machine a.mode user in (
        (λ p. w.0 (permits_from_test (extents_of list) a here list_words (sym (same a) ∙ test_from_permits xs a words p))),
        (λ h. permits_from_test xs a here words (same a ∙ test_from_permits (extents_of list) a list_words (w.1 h))),
      )),
)
  where
    words : AllByRecursion IsWords xs
    words = each_words registers xs are

    list_words : AllByRecursion IsWords (extents_of list)
    list_words =
        blocks_words list.blocks _
        (off_words list.off _
        (tops_words (address_bits registers.xlen) 0 (bottom_by list.off list.blocks) list.tops (width registers.xlen).1 chained.rising))

    same : (a : Access) → lets_through xs a ≡ lets_through (extents_of list) a
    same a =
        ap (λ ys. lets_through ys a)
        (one_list registers xs (extents_of list ++ nothing (64 - length_of list)) are (held_extents registers list chained holds))
        ∙ without_nothing (extents_of list) (64 - length_of list) a
