-- What reading and writing a plan file answers, for every sequence of bytes and every buffer.
use Rattle.std.specs.Prelude.{ℕ, zero, suc, ◌+◌, ◌*◌, cond, List, [], ◌++◌, length, drop, Ok, Err, Result, ◌==◌, nat_le, nat_lt}
use Rattle.bits.specs.declared.fault.BitsFault.TheVariants.{Short}
use Rattle.bits.specs.Fields.{field_at, has_field}
use Rattle.plan.specs.declared.fault.PlanFault.{PlanFault}
use Rattle.plan.specs.declared.terms.Terms.{Terms}
use Rattle.plan.specs.Plan.{added, rows_after}
use Rattle.records.specs.declared.fault.RecordsFault.{RecordsFault}
use Rattle.records.specs.declared.fault.RecordsFault.TheVariants.{Bits, ZeroBits, Trailing, Buffer}
use Rattle.records.specs.declared.fault.PlanFileFault.{PlanFileFault}
use Rattle.records.specs.declared.fault.PlanFileFault.TheVariants.{Records, Plan}
use Rattle.faults.specs.declared.placed.Placed.{Placed}
use Rattle.records.specs.Packed.{kind_of, packed_plan, packed_length}

-- the number of rows that a file announces: its first byte
abbrev pub count_read : List ℕ → Result ℕ RecordsFault
count_read b = cond (has_field b 0 8) (Ok (field_at b 0 8)) (Err (Bits Short))

-- the terms that the 32 bits from byte k on hold
abbrev pub terms_at : List ℕ → ℕ → Terms
terms_at b k = record { kind = kind_of (field_at b (8 * k) 1); budget = field_at b (8 * k + 4) 14; period = field_at b (8 * k + 18) 14 }

-- the record of a row that begins at byte k: it must be there whole, and then its zero bits be zero
abbrev pub row_read : List ℕ → ℕ → Result Terms RecordsFault
row_read b k = cond (has_field b (8 * k) 32) (cond (field_at b (8 * k + 1) 3 == 0) (Ok (terms_at b k)) (Err ZeroBits)) (Err (Bits Short))

-- rows with the one more that `add` takes, or its refusal
abbrev pub rows_with : Result ℕ PlanFault → List Terms → Result (List Terms) PlanFileFault
rows_with (Ok n) more = Ok more
rows_with (Err f) more = Err (Plan f)

-- a record given to `add`
abbrev pub row_given : Result Terms RecordsFault → List Terms → Result (List Terms) PlanFileFault
row_given (Ok t) rows = rows_with (added rows t) (rows_after rows t)
row_given (Err f) rows = Err (Records f)

abbrev pub row_taken : List ℕ → ℕ → List Terms → Result (List Terms) PlanFileFault
row_taken b k rows = row_given (row_read b k) rows

-- go on with what was read; a fault lies where the record begins, at byte k
abbrev pub onward : {X Y F : Type 0} → Result X F → ℕ → (X → Result Y (Placed F)) → Result Y (Placed F)
onward (Ok x) k more = more x
onward (Err f) k more = Err (record { fault = f; byte = k })

-- n records from byte k on, given to `add` after these rows; nothing may follow the last
abbrev pub rows_from : List ℕ → ℕ → ℕ → List Terms → Result (List Terms) (Placed PlanFileFault)
rows_from b k zero rows = cond (nat_lt k (length b)) (Err (record { fault = Records Trailing; byte = k })) (Ok rows)
rows_from b k (suc n) rows = onward (row_taken b k rows) k (λ more. rows_from b (k + 4) n more)

-- the count's fault as one of the file
abbrev pub in_file : {X : Type 0} → Result X RecordsFault → Result X PlanFileFault
in_file (Ok x) = Ok x
in_file (Err f) = Err (Records f)

-- the rows of the plan that a file holds, or its fault
abbrev pub plan_read : List ℕ → Result (List Terms) (Placed PlanFileFault)
plan_read b = onward (in_file (count_read b)) 0 (λ n. rows_from b 1 n [])

-- the reader's answer, and the rows of the caller's plan afterwards
abbrev pub answer_of : {X F : Type 0} → Result X F → Result (Unit {0}) F
answer_of (Ok x) = Ok tt
answer_of (Err f) = Err f

abbrev pub rows_left : {F : Type 0} → Result (List Terms) F → List Terms → List Terms
rows_left (Ok rows) old = rows
rows_left (Err f) old = old

-- the writer's answer: the length of the packed form, or fault 8 at byte 0
abbrev pub plan_written : List Terms → List ℕ → Result ℕ (Placed PlanFileFault)
plan_written rows buffer = cond (nat_le (packed_length (length rows)) (length buffer)) (Ok (packed_length (length rows))) (Err (record { fault = Records Buffer; byte = 0 }))

-- the buffer after the writer: the packed form and then what stood there, or all that stood there
abbrev pub buffer_after : List Terms → List ℕ → List ℕ
buffer_after rows buffer = cond (nat_le (packed_length (length rows)) (length buffer)) (packed_plan rows ++ drop (packed_length (length rows)) buffer) buffer
