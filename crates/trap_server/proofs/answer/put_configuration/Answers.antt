use Rattle.std.proofs.Common.{◌≡◌, ◌∙◌, ◌+◌, ◌-◌, ◌<◌, ◌≤◌, suc, [], ◌∷◌, ◌++◌, set, take, List, ℕ, length, length-take-le, replicate, ap, sym, append_assoc, arith, rules}
use Rattle.std.proofs.Math.Seq.{set-append_seam, take-set-lt}
use Rattle.std.proofs.lemmas.List.{set-append_right}
use Rattle.trap_server.specs.Answers.{cfg_bytes}
use Rattle.trap_server.proofs.Lengths.{cfg_length, cfg_step}
use Rattle.trap_server.proofs.Past.{cfg_past}
use Rattle.trap_server.proofs.answer.put_configuration.Goals as goal

pub loop-i-init : goal.loop-i-init
loop-i-init c =
    let from = c.args.from in
    let few : (from + 64) - from ≡ 64 = omega arith in
    c.clear.ensures ∙ ap (λ k. take from c.args.frame.now ++ replicate k 0) few

pub loop-i-preserved : goal.loop-i-preserved
loop-i-preserved c =
    let entries = c.args.entries.now in
    let from = c.args.from in
    let start = take from c.args.frame.now in
    let i = c.loop-i.i in
    let done = cfg_bytes entries i in
    let byte = c.listed_cfg.result in
    let zeros : List ℕ = replicate (63 - i) 0 in
    let inside : i < length entries = search rules in
    let few : i < 64 = omega (arith, inside, c.requires.few) in
    let size_is : length c.args.frame.now ≡ 1424 = search rules in
    let whole : from ≤ length c.args.frame.now = omega (arith, size_is, c.requires.inside) in
    let size : length start ≡ from = length-take-le from c.args.frame.now whole in
    let left : 64 - i ≡ suc (63 - i) = omega (arith, few) in
    let less : 63 - i ≡ 64 - (i + 1) = omega (arith, few) in
    let place : (from + i) - from ≡ length done = omega (arith, cfg_length entries i) in
    take-set-lt (from + 64) c.loop-i.frame (from + i) byte (omega (arith, few)) ∙ ap (λ xs. set xs (from + i) byte) c.loop-i.invariant
    ∙ set-append_right start (done ++ replicate (64 - i) 0) from (from + i) byte size (omega arith)
    ∙ ap (λ k. start ++ set (done ++ replicate (64 - i) 0) k byte) place
    ∙ ap (λ k. start ++ set (done ++ replicate k 0) (length done) byte) left
    ∙ ap (λ xs. start ++ xs) (set-append_seam done 0 zeros byte ∙ sym (append_assoc done (byte ∷ []) zeros)
    ∙ ap (λ b. (done ++ b ∷ []) ++ zeros) c.listed_cfg.ensures ∙ ap (λ xs. xs ++ zeros) (cfg_step entries i)
    ∙ ap (λ k. cfg_bytes entries (i + 1) ++ replicate k 0) less)

pub returns : goal.returns
returns c =
    let entries = c.args.entries.now in
    let start = take c.args.from c.args.frame.now in
    let n = length entries in
    let last : c.loop-i.i ≡ n = omega (arith, c.loop-i-test.false, c.loop-i.auto.i-end) in
    let all : n + (64 - n) ≡ 64 = omega (arith, c.requires.few) in
    c.loop-i.invariant ∙ ap (λ k. start ++ (cfg_bytes entries k ++ replicate (64 - k) 0)) last
    ∙ ap (λ xs. start ++ xs) (sym (cfg_past entries (64 - n)) ∙ ap (cfg_bytes entries) all)
