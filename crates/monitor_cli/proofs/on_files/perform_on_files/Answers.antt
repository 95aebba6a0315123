use Rattle.std.proofs.Common.{refl}
use Rattle.program_files.specs.Troubles.{status_of}
use Rattle.monitor_cli.specs.Answered.{status_in}
use Rattle.monitor_cli.proofs.on_files.perform_on_files.Goals as goal

pub returns-then-not-are_told : goal.returns-then-not-are_told
returns-then-not-are_told g c =
    record {
      first = c.inputs-first.result.0;
      first_end = c.run_task-done.new.first;
      second = c.inputs-first.result.1;
      second_end = c.run_task-done.new.second;
      cert = c.in_ok-cert.cert;
      cert_end = c.run_task-done.new.cert;
      out = c.in_ok-out.out;
      held = c.run_task-done.new.out;
      stream = c.close_output-status.result.1;
      ended = status_of (status_in c.run_task-done.result);
      inputs = c.inputs-first.ensures;
      fresh = c.in_ok-cert.ensures.failures;
      opened = record {
        over = rw c.in_ok-out.ensures.writer (rw c.new-out.ensures c.new.ensures);
        empty = c.in_ok-out.ensures.held;
        fresh = c.in_ok-out.ensures.failures;
      };
      performs = record { done = status_in c.run_task-done.result; comes = c.run_task-done.ensures; status_is = refl };
      closed = c.close_output-status.ensures;
    }

pub returns-then-may_be_hinted : goal.returns-then-may_be_hinted
returns-then-may_be_hinted g c =
    record {
      first = c.inputs-first.result.0;
      first_end = c.run_task-done.new.first;
      second = c.inputs-first.result.1;
      second_end = c.run_task-done.new.second;
      cert = c.in_ok-cert.cert;
      cert_end = c.run_task-done.new.cert;
      out = c.in_ok-out.out;
      held = c.run_task-done.new.out;
      stream = c.close_output-status.result.1;
      ended = status_of (status_in c.run_task-done.result);
      inputs = c.inputs-first.ensures;
      fresh = c.in_ok-cert.ensures.failures;
      opened = record {
        over = rw c.in_ok-out.ensures.writer (rw c.new-out.ensures c.new.ensures);
        empty = c.in_ok-out.ensures.held;
        fresh = c.in_ok-out.ensures.failures;
      };
      performs = record { done = status_in c.run_task-done.result; comes = c.run_task-done.ensures; status_is = refl };
      closed = c.close_output-status.ensures;
    }

pub returns-after-say_why-3 : goal.returns-after-say_why-3
returns-after-say_why-3 g c =
    record {
      first = c.inputs-first.result.0;
      first_end = c.run_task-done.new.first;
      second = c.inputs-first.result.1;
      second_end = c.run_task-done.new.second;
      cert = c.in_ok-cert.cert;
      cert_end = c.run_task-done.new.cert;
      out = c.in_ok-out.out;
      held = c.run_task-done.new.out;
      stream = c.close_output-status.result.1;
      ended = status_of (status_in c.run_task-done.result);
      inputs = c.inputs-first.ensures;
      fresh = c.in_ok-cert.ensures.failures;
      opened = record {
        over = rw c.in_ok-out.ensures.writer (rw c.new-out.ensures c.new.ensures);
        empty = c.in_ok-out.ensures.held;
        fresh = c.in_ok-out.ensures.failures;
      };
      performs = record { done = status_in c.run_task-done.result; comes = c.run_task-done.ensures; status_is = refl };
      closed = c.close_output-status.ensures;
    }

pub returns-else-status-eq3 : goal.returns-else-status-eq3
returns-else-status-eq3 g c =
    record {
      first = c.inputs-first.result.0;
      first_end = c.run_task-done.new.first;
      second = c.inputs-first.result.1;
      second_end = c.run_task-done.new.second;
      cert = c.in_ok-cert.cert;
      cert_end = c.run_task-done.new.cert;
      out = c.in_ok-out.out;
      held = c.run_task-done.new.out;
      stream = c.close_output-status.result.1;
      ended = status_of (status_in c.run_task-done.result);
      inputs = c.inputs-first.ensures;
      fresh = c.in_ok-cert.ensures.failures;
      opened = record {
        over = rw c.in_ok-out.ensures.writer (rw c.new-out.ensures c.new.ensures);
        empty = c.in_ok-out.ensures.held;
        fresh = c.in_ok-out.ensures.failures;
      };
      performs = record { done = status_in c.run_task-done.result; comes = c.run_task-done.ensures; status_is = refl };
      closed = c.close_output-status.ensures;
    }
