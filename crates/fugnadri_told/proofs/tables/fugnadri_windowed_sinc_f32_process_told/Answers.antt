-- `fugnadri_told::tables::fugnadri_windowed_sinc_f32_process_told` meets its contract: it writes what `sinc_f32_told`
-- gives. Assumes nothing.
use Rattle.fugnadri_told.proofs.HandedOut.{left-f32}
use Rattle.fugnadri_told.proofs.tables.fugnadri_windowed_sinc_f32_process_told.Goals as goal

pub returns : goal.returns
returns c =
    left-f32 c.sinc_f32_told-t.result _ (c.sinc_f32_told-t.ensures.value, c.sinc_f32_told-t.ensures.ring_after)
    (c.handed_f32.ensures.value, (c.handed_f32.ensures.sample_after, c.handed_f32.ensures.accepted_after))
