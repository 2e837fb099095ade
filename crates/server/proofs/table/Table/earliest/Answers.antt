-- A place among at most 32 rows is a server's number.
use Rattle.std.proofs.Common.{◌≡◌, ap, ◌∙◌, arith}
use Rattle.std.proofs.lemmas.Grind.{common_steps}
use Rattle.server.specs.Turn.{earliest_row}
use Rattle.server.proofs.table.Table.earliest.Goals as goal

pub returns : goal.returns
returns g c = λ takes tells.
    let same : c.map.result ≡ c.earliest_where.result = grind (arith, common_steps) in
    same ∙ c.earliest_where.ensures.value takes tells ∙ ap (earliest_row takes) c.rows.ensures
