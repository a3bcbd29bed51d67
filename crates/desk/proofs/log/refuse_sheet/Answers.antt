-- `refuse_sheet` meets its contract.
use mathlib.Core.Path.{refl}
use lib.ListN.{length}
use borrow.Author.Tests.{lt-leb, le-leb}
use Rattle.desk.proofs.log.refuse_sheet.Goals as goal

pub returns-then-out-lt8 : goal.returns-then-out-lt8
returns-then-out-lt8 c =
    rw (lt-leb 8 (length c.args.out.now) c.if-out-lt8.true) (record { count = refl; sheet = refl })

pub returns : goal.returns
returns c =
    rw (le-leb 8 (length c.args.out.now) c.if-out-lt8.false) c.put_bytes.ensures
