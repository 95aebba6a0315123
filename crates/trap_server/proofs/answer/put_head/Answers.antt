use Rattle.std.proofs.Common.{[], ◌∷◌, take}
use Rattle.trap_server.specs.Words.{answer_tag}
use Rattle.trap_server.proofs.Appended.{head_is, no_more, one_word}
use Rattle.trap_server.proofs.answer.put_head.Goals as goal

pub returns : goal.returns
returns c =
    let all = take 88 c.put_word-11.new.bytes in
    let from-10 = one_word (take 80 c.put_word-10.new.bytes) (take 88 c.put_word-11.new.bytes) all c.control_count.result
    []
    c.put_word-11.ensures.front (no_more all) in
    let from-9 = one_word (take 72 c.put_word-9.new.bytes) (take 80 c.put_word-10.new.bytes) all c.list_count.result
    (c.control_count.result ∷ [])
    c.put_word-10.ensures.front from-10 in
    let from-8 = one_word (take 64 c.put_word-8.new.bytes) (take 72 c.put_word-9.new.bytes) all c.wake_word.result
    (c.list_count.result ∷ (c.control_count.result ∷ []))
    c.put_word-9.ensures.front from-9 in
    let from-7 = one_word (take 56 c.put_word-7.new.bytes) (take 64 c.put_word-8.new.bytes) all c.pages_of-pages.result.count
    (c.wake_word.result ∷ (c.list_count.result ∷ (c.control_count.result ∷ [])))
    c.put_word-8.ensures.front from-8 in
    let from-6 = one_word (take 48 c.put_word-6.new.bytes) (take 56 c.put_word-7.new.bytes) all c.pages_of-pages.result.first
    (c.pages_of-pages.result.count ∷ (c.wake_word.result ∷ (c.list_count.result ∷ (c.control_count.result ∷ []))))
    c.put_word-7.ensures.front from-7 in
    let from-5 = one_word (take 40 c.put_word-5.new.bytes) (take 48 c.put_word-6.new.bytes) all c.args.head.now.used
    (c.pages_of-pages.result.first ∷ (c.pages_of-pages.result.count ∷ (c.wake_word.result ∷ (c.list_count.result ∷ (c.control_count.result ∷ [])))))
    c.put_word-6.ensures.front from-6 in
    let from-4 = one_word (take 32 c.put_word-4.new.bytes) (take 40 c.put_word-5.new.bytes) all c.args.head.now.value
    (c.args.head.now.used ∷ (c.pages_of-pages.result.first ∷ (c.pages_of-pages.result.count ∷ (c.wake_word.result ∷ (c.list_count.result
    ∷ (c.control_count.result ∷ []))))))
    c.put_word-5.ensures.front from-5 in
    let from-3 = one_word (take 24 c.put_word-3.new.bytes) (take 32 c.put_word-4.new.bytes) all c.args.head.now.status
    (c.args.head.now.value ∷ (c.args.head.now.used ∷ (c.pages_of-pages.result.first ∷ (c.pages_of-pages.result.count ∷ (c.wake_word.result
    ∷ (c.list_count.result ∷ (c.control_count.result ∷ [])))))))
    c.put_word-4.ensures.front from-4 in
    let from-2 = one_word (take 16 c.put_word-2.new.bytes) (take 24 c.put_word-3.new.bytes) all c.world_number.result
    (c.args.head.now.status ∷ (c.args.head.now.value ∷ (c.args.head.now.used ∷ (c.pages_of-pages.result.first ∷ (c.pages_of-pages.result.count
    ∷ (c.wake_word.result ∷ (c.list_count.result ∷ (c.control_count.result ∷ []))))))))
    c.put_word-3.ensures.front from-3 in
    let from-1 = one_word (take 8 c.put_word.new.bytes) (take 16 c.put_word-2.new.bytes) all c.from.result
    (c.world_number.result ∷ (c.args.head.now.status ∷ (c.args.head.now.value ∷ (c.args.head.now.used ∷ (c.pages_of-pages.result.first
    ∷ (c.pages_of-pages.result.count ∷ (c.wake_word.result ∷ (c.list_count.result ∷ (c.control_count.result ∷ [])))))))))
    c.put_word-2.ensures.front from-2 in
    let from-0 = one_word (take 0 c.args.frame.now) (take 8 c.put_word.new.bytes) all answer_tag
    (c.from.result ∷ (c.world_number.result ∷ (c.args.head.now.status ∷ (c.args.head.now.value ∷ (c.args.head.now.used
    ∷ (c.pages_of-pages.result.first ∷ (c.pages_of-pages.result.count ∷ (c.wake_word.result ∷ (c.list_count.result ∷ (c.control_count.result
    ∷ []))))))))))
    c.put_word.ensures.front from-1 in
    head_is (take 0 c.args.frame.now) all c.args.head.now c.from.result c.world_number.result c.wake_word.result c.pages_of-pages.result
    c.list_count.result c.control_count.result c.from.ensures c.world_number.ensures c.pages_of-pages.ensures c.wake_word.ensures c.list_count.ensures
    c.control_count.ensures from-0
