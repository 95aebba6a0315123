use Rattle.std.proofs.Common.{ap, take}
use Rattle.enclave_table.specs.Tables.{Kept}
use Rattle.trap_server.specs.Sets.{bare}
use Rattle.trap_server.proofs.ListsPut.{both_put, host_put, none_put}
use Rattle.trap_server.proofs.service.put_rest.Goals as goal

pub returns-in-Nothing-clause-rest : goal.returns-in-Nothing-clause-rest
returns-in-Nothing-clause-rest c = (
  take 184 c.args.frame.now,
  none_put (bare c.args.core.now).table c.args.id c.args.lists (take 184 c.args.frame.now) c.in-Nothing.is,
  c.put_given.ensures.bytes,
)

pub returns-in-Host-clause-rest : goal.returns-in-Host-clause-rest
returns-in-Host-clause-rest c = (
  take 768 c.put_list.new.frame,
  host_put c.table.result.now.table (bare c.args.core.now).table c.args.id c.args.lists (take 184 c.args.frame.now) (take 768 c.put_list.new.frame)
      c.host_entries.result.now (ap (λ (k : Kept). k.table) c.table.ensures) c.in-Host.is c.host_entries.ensures.list c.put_list.ensures,
  c.put_given-in-Host.ensures.bytes,
)

pub returns-in-Some-clause-rest : goal.returns-in-Some-clause-rest
returns-in-Some-clause-rest c = (
  take 1352 c.put_list-in-HostAndMade-2.new.frame,
  both_put c.table-in-HostAndMade.result.now.table c.table-in-HostAndMade-2.result.now.table (bare c.args.core.now).table
      c.args.id c.args.lists (take 184 c.args.frame.now) (take 768 c.put_list-in-HostAndMade.new.frame)
      (take 1352 c.put_list-in-HostAndMade-2.new.frame) c.host_entries-in-HostAndMade.result.now c.in-Some.entries.now
      (ap (λ (k : Kept). k.table) c.table-in-HostAndMade.ensures)
      (ap (λ (k : Kept). k.table) c.table-in-HostAndMade-2.ensures) c.in-HostAndMade.is c.host_entries-in-HostAndMade.ensures.list
      c.in-Some.ensures.list c.put_list-in-HostAndMade.ensures c.put_list-in-HostAndMade-2.ensures,
  c.put_given-in-HostAndMade.ensures.bytes,
)
