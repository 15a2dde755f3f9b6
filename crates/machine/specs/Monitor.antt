-- The monitor: 02, CR 3. "The state gains a monitor: open, or an address and a size." A size of 0 is open.
use Rattle.std.specs.Prelude.{ℕ, Bool, false, ◌==◌}
use Rattle.bits.specs.Choice.{pick}
use Rattle.access.specs.declared.transfer.Transfer.{Transfer}
use Rattle.machine.specs.declared.monitor.Monitor.{Monitor}

abbrev pub open_monitor : Monitor
open_monitor = record { address = 0; size = 0 }

-- "the monitor has the same address and size"
unfoldable pub matches : Monitor → ℕ → ℕ → Bool
matches r address size = pick (r.address == address) (r.size == size) false

abbrev pub store_exclusive : Transfer → Bool
store_exclusive t = pick t.exclusive t.store false

-- "stores and writes status 0 exactly if" it matches, "otherwise it writes status 1"; 0 for every other access
unfoldable pub status_of : Transfer → ℕ → Monitor → ℕ
status_of t address r = pick (store_exclusive t) (pick (matches r address t.bytes) 0 1) 0

-- "A load-exclusive arms it"; after a store-exclusive "either way the monitor opens"; nothing else touches it
unfoldable pub monitor_after : Transfer → ℕ → Monitor → Monitor
monitor_after t address r = pick t.exclusive (pick t.store open_monitor (record { address = address; size = t.bytes })) r

-- what goes to the slot that is written: the status in place of the sum of an address
unfoldable pub written_back : Transfer → ℕ → ℕ → ℕ
written_back t status sum = pick t.exclusive status sum

-- with status 1 it "stores nothing, marks included". The status of another access is not looked at
unfoldable pub fails : Transfer → ℕ → Bool
fails t status = pick (store_exclusive t) (status == 1) false

-- what is moved with a status: a store that fails is the same store of no bytes
abbrev pub made_of : Transfer → ℕ → Transfer
made_of t status =
    record {
      store = t.store;
      ordered = t.ordered;
      bytes = pick (fails t status) 0 t.bytes;
      more = pick (fails t status) 0 t.more;
      extent = t.extent;
      target = t.target;
      second = t.second;
      exclusive = t.exclusive;
    }
