use Rattle.std.proofs.Common.{◌≡◌}
use Rattle.trap_server.specs.Platforms.{device_words, words_of}
use Rattle.trap_server.proofs.platform_frame.devices_in.Given as goal

abbrev pub invariant-loop-i : goal.invariant-loop-i
invariant-loop-i l = words_of l.devices.items ≡ device_words l.bytes l.i
