use Rattle.format.proofs.Copying.{mem_at}
use Rattle.format.proofs.copies.find_copy.Goals as goal

pub read_sound-requires : goal.read_sound-requires
read_sound-requires g c = c.requires _ (mem_at _ _ c.loop-sector-test.true)
