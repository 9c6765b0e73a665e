-- `write` meets its contract: each outcome hands on its line and, if it is planned, the table.
use Rattle.report.proofs.Answers.{overload_text, refused_text}
use Rattle.report.proofs.write.Goals as goal

pub returns-in-Overloaded : goal.returns-in-Overloaded
returns-in-Overloaded c = overload_text _ c.args.h c.args.table.now _ _ _ _ c.in-Overloaded.is c.write_text-in-Overloaded.ensures

pub returns-in-Refused : goal.returns-in-Refused
returns-in-Refused c =
    refused_text _ c.args.h c.args.table.now _ _ _ _ _ _ c.in-Refused.is c.number.ensures
    c.place.ensures c.write_text-in-Refused.ensures
