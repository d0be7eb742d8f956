-- The promises of specs/Promises.antt, each under its name.
use Rattle.waves.specs.Promises as promise
use Rattle.waves.proofs.StepTexts.{step_short}
use Rattle.waves.proofs.Steps.{step_reads, step_writes}
use Rattle.waves.proofs.Header.{header_reads, header_writes}
use Rattle.waves.proofs.Files.{dump_reads, dump_writes}
use Rattle.waves.proofs.Writers.{writes_all, refused_kept, written_reads, read_writes}

pub steps_are_short : promise.StepsAreShort
steps_are_short = step_short

pub written_step_reads : promise.WrittenStepReads
written_step_reads n t prev c pre post range h valid ends = step_reads prev t c n pre post range h valid ends

pub read_step_writes : promise.ReadStepWrites
read_step_writes = step_writes

pub written_dump_header_reads : promise.WrittenDumpHeaderReads
written_dump_header_reads = header_reads

pub read_dump_header_writes : promise.ReadDumpHeaderWrites
read_dump_header_writes s n next e = let h = header_writes s n next e in (h.range, h.past, h.bytes)

pub written_dump_reads : promise.WrittenDumpReads
written_dump_reads = dump_reads

pub read_dump_writes : promise.ReadDumpWrites
read_dump_writes s n cs e = let w = dump_writes s n cs e in (w.masters, w.valid, w.few, w.bytes)

pub writes_the_valid : promise.WritesTheValid
writes_the_valid = writes_all

pub buffers_kept : promise.BuffersKept
buffers_kept = refused_kept

pub written_is_read : promise.WrittenIsRead
written_is_read = written_reads

pub read_is_written : promise.ReadIsWritten
read_is_written = read_writes
