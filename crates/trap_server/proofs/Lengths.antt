-- How long the parts of a frame are.
use Rattle.std.proofs.Common.{◌≡◌, ℕ, zero, suc, ◌+◌, ◌*◌, List, [], ◌∷◌, ◌++◌, length, ap, sym, ◌∙◌, arith, refl, length-append}
use Rattle.std.proofs.lemmas.List.{length-map, map-append}
use Rattle.byteorder.specs.Endian.{little_bytes}
use Rattle.pmp_encoding.specs.declared.region.Entry.{Entry}
use Rattle.pmp_encoding.specs.declared.perm.Perm.{Perm}
use Rattle.pmp_encoding.specs.Perms.{bits_of}
use Rattle.trap_server.specs.Words.{word_at}
use Rattle.trap_server.specs.Platforms.{ram_in, device_words, words_of, words_of_device}
use Rattle.trap_server.specs.Answers.{listed_address, address_bytes, listed_cfg, cfg_bytes}

pub word_length : (x : ℕ) → length (little_bytes 8 x) ≡ 8
word_length x = refl

pub ram_length : (bytes : List ℕ) (n : ℕ) → length (ram_in bytes n) ≡ n
ram_length bytes zero = refl
ram_length bytes (suc n) = omega (arith, length-append (ram_in bytes n) ((word_at bytes (7 + 2 * n), word_at bytes (8 + 2 * n)) ∷ []), ram_length bytes n)

pub device_length : (bytes : List ℕ) (n : ℕ) → length (device_words bytes n) ≡ n
device_length bytes zero = refl
device_length bytes (suc n) =
    omega (
      arith,
      length-append (device_words bytes n) ((word_at bytes (71 + 3 * n), word_at bytes (72 + 3 * n), word_at bytes (73 + 3 * n)) ∷ []),
      device_length bytes n,
    )

pub devices_room : (items : List (ℕ × ℕ × Perm)) (bytes : List ℕ) (n : ℕ) → words_of items ≡ device_words bytes n → length items ≡ n
devices_room items bytes n is = sym (length-map items words_of_device) ∙ ap length is ∙ device_length bytes n

-- a device more
pub device_step :
    (items : List (ℕ × ℕ × Perm)) (bytes : List ℕ) (n a b : ℕ) (perm : Perm) → words_of items ≡ device_words bytes n → a ≡ word_at bytes (71 + 3 * n)
    → b ≡ word_at bytes (72 + 3 * n)
    → bits_of perm ≡ word_at bytes (73 + 3 * n) → words_of (items ++ ((a, b, perm) ∷ [])) ≡ device_words bytes (n + 1)
device_step items bytes n a b perm is p q r =
    let e : suc n ≡ n + 1 = omega arith in
    let same : (a, b, bits_of perm) ≡ (word_at bytes (71 + 3 * n), word_at bytes (72 + 3 * n), word_at bytes (73 + 3 * n)) = rw (p, q, r) refl in
    map-append words_of_device items ((a, b, perm) ∷ []) ∙ ap (λ xs. xs ++ ((a, b, bits_of perm) ∷ [])) is
    ∙ ap (λ (d : ℕ × ℕ × ℕ). device_words bytes n ++ (d ∷ [])) same ∙ ap (device_words bytes) e

-- a byte for each entry
pub cfg_length : (entries : List Entry) (n : ℕ) → length (cfg_bytes entries n) ≡ n
cfg_length entries zero = refl
cfg_length entries (suc n) = omega (arith, length-append (cfg_bytes entries n) (listed_cfg entries n ∷ []), cfg_length entries n)

-- an entry more
pub cfg_step : (entries : List Entry) (n : ℕ) → cfg_bytes entries n ++ listed_cfg entries n ∷ [] ≡ cfg_bytes entries (n + 1)
cfg_step entries n =
    let e : suc n ≡ n + 1 = omega arith in
    ap (cfg_bytes entries) e

pub address_step : (entries : List Entry) (n : ℕ) → address_bytes entries n ++ little_bytes 8 (listed_address entries n) ≡ address_bytes entries (n + 1)
address_step entries n =
    let e : suc n ≡ n + 1 = omega arith in
    ap (address_bytes entries) e
