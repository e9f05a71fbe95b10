-- Both parts of a proper number are in range, so the machine has them exactly; the writes then compute (RealBytes).
use Rattle.out_areas.proofs.RealBytes.{put_record}
use Rattle.out_areas.proofs.constants.put_real.Goals as goal

pub returns : goal.returns
returns c =
    put_record c.requires.0 c.requires.1
    c.write_signed.ensures
    c.write_signed-2.ensures
