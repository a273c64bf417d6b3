-- What a report's value means.
use Rattle.std.specs.Prelude.{◌≡◌, ℕ, ◌+◌, ◌≤◌, List, ◌++◌, length}
use Rattle.arrays.specs.Items.{items}
use Rattle.block.specs.declared.block.Block.{Block}
use Rattle.block.specs.Views.{block_bytes}
use Rattle.session.specs.Books.{Shelf}
use Rattle.chest.specs.declared.shelf.Shelf as code-shelf
use Rattle.chest.specs.Views.{shelf_of}
use Rattle.report.specs.declared.report.Report.{Report}

-- The bytes to print.
abbrev pub report_bytes : {N : ℕ} → Report N → List ℕ
report_bytes r = items r.text

-- What files were taken for: the bytes of a state block, and a shelf.
abbrev pub taken_for : Block × code-shelf.Shelf → List ℕ × Shelf
taken_for taken = (block_bytes taken.0, shelf_of taken.1)

-- A piece was put behind the bytes so far, and took no more than its room.
pub record Adds (before piece : List ℕ) (room : ℕ) (later : List ℕ) : Type 0 where
  pub joined : later ≡ before ++ piece
  pub short : length later ≤ length before + room
