-- The blocks of a tree, appended one behind another.
use Rattle.std.proofs.Common.{◌≡◌, ℕ, ◌+◌, ◌*◌, ◌^◌, ◌<◌, List, [], ◌++◌, length, replicate, sym, ap, ◌∙◌, arith}
use Rattle.std.proofs.lemmas.List.{length-replicate}
use Rattle.host_tree.specs.declared.header.Header.{Header}
use Rattle.host_tree.specs.Header.{header_words}
use Rattle.host_tree.specs.Written.{word_bytes, words_bytes}
use Rattle.host_tree.proofs.Fronts.{two_joined}
use Rattle.host_tree.proofs.Laid.{AreSizes, laid, laid_is}

pub appended : (h : Header) (o0 o1 o2 o3 o4 o5 o6 r b n z : List ℕ) → o0 ≡ [] → o1 ≡ o0 ++ words_bytes (header_words h) → o2 ≡ o1 ++ r → o3 ≡ o2 ++ b
    → o4 ≡ o3 ++ word_bytes 9 → o5 ≡ o4 ++ n → o6 ≡ o5 ++ z → o6 ≡ laid h r b n z
appended h o0 o1 o2 o3 o4 o5 o6 r b n z e0 e1 e2 e3 e4 e5 e6 =
    let head = words_bytes (header_words h) in
    let tail = two_joined o4 o5 o6 n z e5 e6 in
    let block = two_joined o2 o3 o4 b (word_bytes 9) e3 e4 in
    let later = two_joined o2 o4 o6 (b ++ word_bytes 9) (n ++ z) block tail in
    let more = two_joined o1 o2 o6 r ((b ++ word_bytes 9) ++ (n ++ z)) e2 later in
    let all = two_joined o0 o1 o6 head (r ++ ((b ++ word_bytes 9) ++ (n ++ z))) e1 more in
    all ∙ ap (λ (x : List ℕ). x ++ (head ++ (r ++ ((b ++ word_bytes 9) ++ (n ++ z))))) e0 ∙ sym (laid_is h r b n z)

-- the same where two of them are known by other names
pub chained : (h : Header) (o0 o1 o2 o3 o4 o5 o6 r b n z x y : List ℕ) → o0 ≡ [] → o1 ≡ o0 ++ words_bytes (header_words h) → o2 ≡ o1 ++ r
    → o3 ≡ o2 ++ x → x ≡ b → o4 ≡ o3 ++ word_bytes 9 → o5 ≡ o4 ++ y → y ≡ n → o6 ≡ o5 ++ z → o6 ≡ laid h r b n z
chained h o0 o1 o2 o3 o4 o5 o6 r b n z x y e0 e1 e2 e3 p e4 e5 q e6 =
    let block = e3 ∙ ap (λ (s : List ℕ). o2 ++ s) p in
    let names = e5 ∙ ap (λ (s : List ℕ). o4 ++ s) q in
    appended h o0 o1 o2 o3 o4 o5 o6 r b n z e0 e1 e2 block e4 names e6

pub sizes : (h : Header) (r b n x y : List ℕ) (count free : ℕ) → h.block ≡ 40 + 16 * (count + 1) → length r ≡ 16 * (count + 1)
    → h.block_size ≡ length x + 4 → x ≡ b → h.names ≡ h.block + h.block_size → h.names_size ≡ length y → y ≡ n
    → h.size ≡ h.names + h.names_size + free → h.size < 2 ^ 32 → AreSizes h r b n (replicate free 0)
sizes h r b n x y count free block reserved block_size p names names_size q size fits = record {
  block = omega (arith, block, reserved);
  aligned = omega (arith, block);
  block_size = omega (arith, block_size, ap length p);
  names = names;
  names_size = omega (arith, names_size, ap length q);
  size = omega (arith, size, length-replicate {A = ℕ} free 0);
  fits = fits;
}
