-- The registers past the entries of a list are zero.
use Rattle.std.proofs.Common.{◌≡◌, ◌∙◌, ℕ, zero, suc, ◌+◌, ◌*◌, List, [], ◌∷◌, ◌++◌, length, replicate, ap, sym, append_assoc, append-nil, arith}
use Rattle.std.proofs.lemmas.Option.{slice_get_past}
use Rattle.byteorder.specs.Endian.{little_bytes}
use Rattle.pmp_encoding.specs.declared.region.Entry.{Entry}
use Rattle.trap_server.specs.Answers.{listed_address, address_bytes, address_in, listed_cfg, cfg_bytes, cfg_in}

abbrev pub zeros : ℕ → List ℕ
zeros n = replicate n 0

-- zeros at the end of zeros
zeros_more : (n k : ℕ) → zeros n ++ zeros k ≡ zeros (n + k)
zeros_more zero k =
    let same : k ≡ 0 + k = omega arith in
    ap zeros same
zeros_more (suc n) k =
    let next : suc (n + k) ≡ suc n + k = omega arith in
    ap (λ xs. 0 ∷ xs) (zeros_more n k) ∙ ap zeros next

-- so are the configuration bytes
pub cfg_past : (entries : List Entry) (k : ℕ) → cfg_bytes entries (length entries + k) ≡ cfg_bytes entries (length entries) ++ zeros k
cfg_past entries zero =
    let same : length entries + 0 ≡ length entries = omega arith in
    ap (cfg_bytes entries) same ∙ sym (append-nil (cfg_bytes entries (length entries)))
cfg_past entries (suc k) =
    let n = length entries in
    let next : n + suc k ≡ suc (n + k) = omega arith in
    let more : k + 1 ≡ suc k = omega arith in
    let none : listed_cfg entries (n + k) ≡ 0 = ap cfg_in (slice_get_past entries (n + k) (omega arith)) in
    ap (cfg_bytes entries) next ∙ ap (λ xs. xs ++ (listed_cfg entries (n + k) ∷ [])) (cfg_past entries k)
    ∙ ap (λ b. (cfg_bytes entries n ++ zeros k) ++ (b ∷ [])) none
    ∙ append_assoc (cfg_bytes entries n) (zeros k) (0 ∷ [])
    ∙ ap (λ xs. cfg_bytes entries n ++ xs) (zeros_more k 1 ∙ ap zeros more)

-- and the address registers
pub address_past : (entries : List Entry) (k : ℕ) → address_bytes entries (length entries + k) ≡ address_bytes entries (length entries) ++ zeros (8 * k)
address_past entries zero =
    let same : length entries + 0 ≡ length entries = omega arith in
    let none : 0 ≡ 8 * 0 = omega arith in
    ap (address_bytes entries) same ∙ sym (append-nil (address_bytes entries (length entries)))
    ∙ ap (λ m. address_bytes entries (length entries) ++ zeros m) none
address_past entries (suc k) =
    let n = length entries in
    let next : n + suc k ≡ suc (n + k) = omega arith in
    let more : 8 * k + 8 ≡ 8 * suc k = omega arith in
    let none : listed_address entries (n + k) ≡ 0 = ap address_in (slice_get_past entries (n + k) (omega arith)) in
    ap (address_bytes entries) next ∙ ap (λ xs. xs ++ little_bytes 8 (listed_address entries (n + k))) (address_past entries k)
    ∙ ap (λ a. (address_bytes entries n ++ zeros (8 * k)) ++ little_bytes 8 a) none
    ∙ append_assoc (address_bytes entries n) (zeros (8 * k)) (zeros 8)
    ∙ ap (λ xs. address_bytes entries n ++ xs) (zeros_more (8 * k) 8 ∙ ap zeros more)
