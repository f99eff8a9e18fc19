use Rattle.etcs_telegram.proofs.decoding.decode.Goals as goal

-- the bits are borrowed whole
pub returns-clause-header : goal.returns-clause-header
returns-clause-header c = rw c.slice.ensures at c.decode_slice.ensures.header

pub returns-clause-memory : goal.returns-clause-memory
returns-clause-memory c = rw c.slice.ensures at c.decode_slice.ensures.memory
