use Rattle.std.proofs.Common.{◌∙◌, ap, arith}
use Rattle.trap_server.specs.Platforms.{words_of}
use Rattle.trap_server.proofs.Lengths.{device_step, devices_room}
use Rattle.trap_server.proofs.platform_frame.devices_in.Goals as goal

pub push-requires : goal.push-requires
push-requires c =
    let room = devices_room c.loop-i.devices.items c.args.bytes.now c.loop-i.i c.loop-i.invariant in
    (omega arith, omega (arith, room, c.requires, c.loop-i-test.true))

pub loop-i-preserved : goal.loop-i-preserved
loop-i-preserved c =
    ap words_of c.push.ensures.items
    ∙ device_step c.loop-i.devices.items c.args.bytes.now c.loop-i.i c.word-in-loop-i.result c.word-in-loop-i-2.result c.in_ok-perm.perm c.loop-i.invariant
    c.word-in-loop-i.ensures c.word-in-loop-i-2.ensures
    (c.in_ok-perm.ensures.some ∙ c.word.ensures)
