use Rattle.hart_trace.proofs.PlainFronts.{look_event, look_front, store_event, store_front}
use Rattle.hart_trace.proofs.plain.plain_access.Goals as goal

pub returns-in_ok-value-in-Store : goal.returns-in_ok-value-in-Store
returns-in_ok-value-in-Store c =
    let access = rw c.in-Store.is at c.in_ok-access.ensures in
    let e = store_front c.in_ok-kind.rest.now c.in_ok-mode.digits.now c.in_ok-address.behind.now c.in_ok-digits-in-Store.digits.now
    c.in_ok-value-in-Store.end.now c.in_ok-mode.mode c.in_ok-mode.size c.in_ok-address.address c.in_ok-value-in-Store.value c.in_ok-access.access
    c.in_ok-mode.ensures c.in_ok-address.ensures c.in_ok-digits-in-Store.ensures c.in_ok-value-in-Store.ensures access in
    store_event c.args.text.now c.in_ok-kind.rest.now c.in_ok-value-in-Store.end.now e.0 c.in_ok-access.access c.in_ok-value-in-Store.value
    (rw c.in-Store.is at c.in_ok-kind.ensures) e.1 e.2

pub returns-in-Fetch : goal.returns-in-Fetch
returns-in-Fetch c =
    let look = look_front c.in_ok-kind.kind c.in_ok-kind.rest.now c.in_ok-mode.digits.now c.in_ok-address.behind.now c.in_ok-mode.mode c.in_ok-mode.size
    c.in_ok-address.address c.in_ok-access.access c.in_ok-mode.ensures c.in_ok-address.ensures c.in_ok-access.ensures in
    look_event c.in_ok-kind.kind c.args.text.now c.in_ok-kind.rest.now c.in_ok-address.behind.now c.in_ok-access.access c.in-Fetch.is c.in_ok-kind.ensures look
