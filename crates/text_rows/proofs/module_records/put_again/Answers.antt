use Rattle.text_rows.proofs.module_records.put_again.Goals as goal

pub put_module-requires : goal.put_module-requires
put_module-requires c = record { room = ((c.in_ok-read.ensures.spelled c.in-Some.read).0 c.in-Some.is).0.fits }
