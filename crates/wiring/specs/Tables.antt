-- What a trio table stands for.
use Rattle.std.specs.Prelude.{ℕ, List, map, take}
use Rattle.wiring.specs.declared.table.TrioRecord.{TrioRecord}
use Rattle.wiring.specs.declared.table.TrioTable.{TrioTable}

abbrev pub code_in : TrioRecord → ℕ
code_in t = t.code

-- the codes of the trios, by number
unfoldable pub codes : {N : ℕ} → TrioTable N → List ℕ
codes t = map code_in (take t.count t.trios)
