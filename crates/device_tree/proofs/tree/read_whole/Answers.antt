use Rattle.std.proofs.Common.{◌∙◌, ap, subst, refl, ℕ, List, length, length-drop, arith}
use Rattle.device_tree.specs.Pieces.{SpellsParts, parts_of}
use Rattle.device_tree.specs.Nodes.{parts_of_tree}
use Rattle.device_tree.specs.Trees.{IsHeader, strings_of, structure_of}
use Rattle.device_tree.specs.Words.{word_at}
use Rattle.device_tree.specs.Places.{Block, block_at}
use Rattle.device_tree.specs.Refusals.{IsPartsFault, IsTokenFaultIn, IsUnended, of_header, of_parts, of_reservations, of_token}
use Rattle.device_tree.proofs.InBytes.{parts_fault, same_block}
use Rattle.device_tree.proofs.TreeParts.{same_parts}
use Rattle.device_tree.proofs.tree.read_whole.Goals as goal

pub returns-clause-refused : goal.returns-clause-refused
returns-clause-refused c = λ _ tree reservations spelt within.
    let bytes = c.args.bytes.now in
    let read = c.in-Ok-pieces_in.pieces.items in
    let own = c.in-Ok-pieces_in.ensures.ok in
    let strings = subst (λ (x : List ℕ). SpellsParts x c.structure_of-block.result.now (parts_of read)) c.strings_of.ensures own in
    let whole = subst (λ (x : List ℕ). SpellsParts (strings_of bytes) x (parts_of read)) c.structure_of-block.ensures strings in
    let same = same_parts (strings_of bytes) (structure_of bytes) (parts_of read) (parts_of_tree tree) whole spelt.structure in
    c.in-Err-check_tree.ensures.refused tree (record { parts_are = ap parts_of c.as_slice.ensures.value ∙ same; within = within })

pub returns-in-Err-clause-reason : goal.returns-in-Err-clause-reason
returns-in-Err-clause-reason c = λ _. of_header c.in-Err.ensures.reason c.in-Err.ensures.field

pub returns-in-Err-reservations_in-clause-reason : goal.returns-in-Err-reservations_in-clause-reason
returns-in-Err-reservations_in-clause-reason c = λ memory.
    let bytes = c.args.bytes.now in
    let header : IsHeader bytes = c.in-Ok.ensures.ok in
    let w = c.in-Err-reservations_in.ensures.reason memory in
    let len = ap length c.reservations_of-reserved.ensures ∙ length-drop (word_at bytes 16) bytes in
    of_reservations w.1 header w.0
    (subst (λ (x : List ℕ). IsUnended x w.1) c.reservations_of-reserved.ensures w.2)
    (omega (arith, w.3, len, header.blocks.reservations.inside))

pub returns-in-Err-pieces_in-clause-reason : goal.returns-in-Err-pieces_in-clause-reason
returns-in-Err-pieces_in-clause-reason c = λ memory.
    let same = same_block c.strings_of.result.now _ c.structure_of-block.result.now _ c.structure_offset-start.result _ c.strings_of.ensures
    c.structure_of-block.ensures c.structure_offset-start.ensures in
    of_token c.in-Ok.ensures.ok
    (subst (λ (x : Block). IsTokenFaultIn x c.in-Err-pieces_in.fault) same (c.in-Err-pieces_in.ensures.reason memory))

pub returns-clause-reason : goal.returns-clause-reason
returns-clause-reason c = λ _.
    let s = c.strings_of.result.now in
    let b = c.structure_of-block.result.now in
    let start = c.structure_offset-start.result in
    let same = same_block s _ b _ start _ c.strings_of.ensures c.structure_of-block.ensures c.structure_offset-start.ensures in
    let read = c.in-Ok-pieces_in in
    let fault = c.in-Err-check_tree.fault in
    let wrong : IsPartsFault (block_at s b start) fault = parts_fault s b start _ read.pieces.items c.as_slice.result.now fault c.as_slice.ensures.value
    read.ensures.ok
    read.ensures.places
    refl
    c.in-Err-check_tree.ensures.reason in
    of_parts c.in-Ok.ensures.ok (subst (λ (x : Block). IsPartsFault x fault) same wrong)
