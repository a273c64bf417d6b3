-- The most bytes that the parts of a report take.
use Rattle.std.specs.Prelude.{ℕ, ◌+◌, ◌*◌}
use Rattle.interfaces.specs.States.{pcr_count}
use Rattle.block.specs.Layout.{entry_count}
use Rattle.session.specs.Books.{content_limit}

-- A line with a number: a word's length, a tab, 20 digits and a line feed.
abbrev pub number_room : ℕ → ℕ
number_room word = word + 22

-- The word `pcr` and a tab, 20 digits and a tab, 32 bytes as pairs and a line feed.
abbrev pub pcr_room : ℕ
pcr_room = 4 + 21 + 65

abbrev pub pcrs_room : ℕ
pcrs_room = pcr_count * pcr_room

-- The word `value` and a tab, 34 bytes as pairs and a tab, 64 bytes as pairs and a line feed.
abbrev pub entry_room : ℕ
entry_room = 6 + 69 + 129

abbrev pub entries_room : ℕ
entries_room = entry_count * entry_room

-- The words `time`, `clock`, `resets`, `restarts` and `safe`.
abbrev pub time_room : ℕ
time_room = number_room 4 + number_room 5 + number_room 6 + number_room 8 + number_room 4

-- The longer of its two lines.
abbrev pub presence_room : ℕ
presence_room = 13

-- The words `count` and `locality` among the parts.
abbrev pub state_room : ℕ
state_room = pcrs_room + number_room 5 + entries_room + time_room + number_room 8 + presence_room

-- The session: its digest and its five records.
abbrev pub progress_room : ℕ
progress_room = 158

-- A fault, or a number of lines.
abbrev pub lines_room : ℕ
lines_room = 129

-- The word `content` and a tab, the content as pairs and a line feed. A refusal is shorter.
abbrev pub content_room : ℕ
content_room = 8 + 2 * content_limit + 1
