-- The table of a plan: its text, byte by byte.
use Rattle.std.specs.Prelude.{ℕ, ◌+◌, ◌-◌, ◌*◌, ◌/◌, ◌%◌, List, [], ◌∷◌, ◌++◌, length, replicate, codes, decimal}
use Rattle.plan.specs.declared.terms.Terms.{Terms}
use Rattle.plan.specs.Terms.{common_multiple, weight_of}
use Rattle.plan.specs.Plan.{load_of}
use Rattle.plan_text.specs.Kinds.{kind_word}

-- a text in a column of this width, at its right or at its left; a wider text as it is
abbrev pub pad_left : ℕ → List ℕ → List ℕ
pad_left width text = replicate (width - length text) 32 ++ text

abbrev pub pad_right : ℕ → List ℕ → List ℕ
pad_right width text = text ++ replicate (width - length text) 32

-- n hundredths, with two decimals
abbrev pub hundredths : ℕ → List ℕ
hundredths n = decimal (n / 100) ++ (codes "." ++ (decimal (n / 10 % 10) ++ decimal (n % 10)))

-- a period in hundredths of a millisecond: a tick is a quarter of a millisecond
abbrev pub milliseconds_of : ℕ → ℕ
milliseconds_of period = period * 25

-- a weight in hundredths of a percent of the whole processor, to the nearest one, half up
abbrev pub share_of : ℕ → ℕ
share_of weight = (weight * 10000 + common_multiple / 2) / common_multiple

abbrev pub heading : List ℕ
heading = codes "server  kind           Q      T  period ms  weight   share %\n"

-- the columns of a weight: the weight itself, and its share in percent
abbrev pub weight_columns : ℕ → ℕ → List ℕ
weight_columns width weight = pad_left width (decimal weight) ++ (pad_left 10 (hundredths (share_of weight)) ++ codes "\n")

-- the line of the server with this number
abbrev pub row_line : ℕ → Terms → List ℕ
row_line number t =
    pad_left 6 (decimal number) ++ (codes "  " ++ (pad_right 8 (kind_word t.kind)
    ++ (pad_left 8 (decimal t.budget) ++ (pad_left 7 (decimal t.period) ++ (pad_left 11 (hundredths (milliseconds_of t.period))
    ++ weight_columns 8 (weight_of t))))))

-- the lines of the servers, of which the first has this number
abbrev pub row_lines : ℕ → List Terms → List ℕ
row_lines number [] = []
row_lines number (t ∷ ts) = row_line number t ++ row_lines (number + 1) ts

-- a line that is not a server's: its name, and a weight
abbrev pub sum_line : List ℕ → ℕ → List ℕ
sum_line name weight = pad_left 6 name ++ weight_columns 44 weight

-- the lines below the servers: what they weigh together, and what a further one may weigh
abbrev pub sum_lines : ℕ → ℕ → List ℕ
sum_lines load free = sum_line (codes "total") load ++ sum_line (codes "free") free

-- the table of rows that weigh load together and leave free, of a plan whose file has this length
abbrev pub table_by : List Terms → ℕ → ℕ → ℕ → List ℕ
table_by rows load free file =
    heading ++ (row_lines 0 rows ++ (sum_lines load free ++ (codes "file " ++ (decimal file ++ codes " bytes\n"))))

-- the table of a plan with these rows
abbrev pub table_text : List Terms → ℕ → List ℕ
table_text rows file = table_by rows (load_of rows) (common_multiple - load_of rows) file
