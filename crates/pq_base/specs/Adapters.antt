-- Private: the adapters over std's readers and writers.
-- What is inside an adapter: the reader or writer, and how many of its errors were counted.
use Rattle.std.specs.Prelude.{ℕ}
use Rattle.pq_base.specs.declared.adapters.ReadSource.{ReadSource}
use Rattle.pq_base.specs.declared.adapters.WriteSink.{WriteSink}

abbrev pub reader_of : {R : Type 0} → ReadSource R → R
reader_of source = source.inner

abbrev pub read_errors : {R : Type 0} → ReadSource R → ℕ
read_errors source = source.faults

abbrev pub writer_of : {W : Type 0} → WriteSink W → W
writer_of sink = sink.inner

abbrev pub write_errors : {W : Type 0} → WriteSink W → ℕ
write_errors sink = sink.faults
