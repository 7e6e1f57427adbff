-- The five numbers of the code, as the definitions have what is told of a record.
use Rattle.record_model.specs.Record.{Told}
use Rattle.record_report.specs.declared.ToldNumbers.{ToldNumbers}

abbrev pub told_in : ToldNumbers → Told
told_in n = record { answer = n.answer; held = n.held; kind = n.kind; word = n.word; value = n.value }
