-- Another planned call changes neither what the disk tells nor the journal in hand.
use Rattle.std.proofs.Common.{ℕ, subst, sym}
use Rattle.disk_base.specs.MemDisk.{DiskState}
use Rattle.disk_base.specs.contracts.mem_disk.MemDiskDisk.TheImpl.{ghosts}
use Rattle.journal_end.specs.Filed.{CanStep}
use Rattle.journal_end.specs.declared.journal_end.JournalOnDisk.{JournalOnDisk}
use Rattle.journal_node.specs.Held.{Held}
use Rattle.journal_end.proofs.journal_end.JournalOnDiskFiledEnd.arm.Goals as goal

armed : (end : JournalOnDisk) (call : ℕ) → CanStep ghosts end
    → CanStep ghosts
    (record {
      host = record end.host {
        journal = record end.host.journal {
          spool = record end.host.journal.spool {
            disk = record end.host.journal.spool.disk {
              plan = record end.host.journal.spool.disk.plan { stop_in = call };
            };
          };
        };
      };
    })
armed end call can = record {
  on = record {
    stands = record {
      count = can.on.stands.count;
      mark = can.on.stands.mark;
      chain = can.on.stands.chain;
      file = λ s told. can.on.stands.file s told;
    };
    version_is = can.on.version_is;
    told = can.on.told;
  };
  made = can.made;
}

pub returns-clause-can : goal.returns-clause-can
returns-clause-can c can =
    subst (λ (h : Held DiskState). CanStep ghosts (record { host = h })) (sym c.arm.ensures)
    (armed c.args.self.now c.args.call can)
