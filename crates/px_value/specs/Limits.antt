-- The limits of a run. Whoever defines or counts something that has a limit takes it from here.
use Rattle.std.specs.Prelude.{ℕ}

-- ---- a call of an entry

-- the most frames that there are at a time, the entry's with them
unfoldable pub all_frames : ℕ
all_frames = 200

-- the most turns: tests of loops, and calls of methods
abbrev pub max_turns : ℕ
max_turns = 100000

-- one more than there can be turns in a call
unfoldable pub all_turns : ℕ
all_turns = 100001

-- the most operations that are asked of the tables
abbrev pub max_operations : ℕ
max_operations = 100

-- the most printed lines
abbrev pub max_prints : ℕ
max_prints = 1000

-- the most bytes that all printed lines have together
abbrev pub max_printed : ℕ
max_printed = 20000

-- ---- the heap of a session

-- the most cells, where each object counts as one more
abbrev pub max_counted : ℕ
max_counted = 100000

-- the most elements of an array
abbrev pub max_elements : ℕ
max_elements = 50000

-- ---- texts

-- the most bytes of a text
abbrev pub max_text : ℕ
max_text = 500

-- the most bytes of a text that is a parameter of an operation, or stands in a table
abbrev pub max_parameter : ℕ
max_parameter = 255

-- the most bytes that all texts of an operation have together
abbrev pub max_texts : ℕ
max_texts = 500
