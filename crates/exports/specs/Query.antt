-- What the exported query promises: `QueryPromise`, with numbers in place of the `Result`.
use Rattle.definition.specs.Query.{QueryCall, QueryLists, queried, query_lists}
use Rattle.numbers.specs.Exported.{Exported}
use Rattle.numbers.specs.Numbers.{query_numbers}
use Rattle.numbers.specs.declared.QueryNumbers.{QueryNumbers}

abbrev pub QueryExported : QueryCall → QueryLists → QueryNumbers → QueryLists → Type 0
QueryExported q before answer after = Exported query_numbers (queried q before) (query_lists q (queried q before) before) answer after
