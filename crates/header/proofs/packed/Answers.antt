-- `packed` meets its contract: each field behind those before it.
use Rattle.header.proofs.HeaderLaws.{five_bits, packed_bits}
use Rattle.header.proofs.packed.Goals as goal

pub returns-clause-result_value : goal.returns-clause-result_value
returns-clause-result_value c =
    let h = c.args.header in
    rw (c.from.ensures, c.from-2.ensures, c.from-3.ensures, c.from-4.ensures, c.from-5.ensures)
    (packed_bits h _ (five_bits h.reserved h.preamble h.null_frame_bit h.sync h.startup))
