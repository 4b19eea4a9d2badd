-- What becomes of a request.
use Rattle.cors_rules.specs.Answers as rules
use Rattle.cors_answer.specs.declared.verdict.Verdict.{Verdict}
use Rattle.cors_answer.specs.declared.verdict.Verdict.TheVariants.{Answered, HandedOn}

abbrev pub verdict_of : Verdict → rules.Verdict
verdict_of (Answered response) = rules.answered response
verdict_of (HandedOn grant) = rules.handed_on grant
