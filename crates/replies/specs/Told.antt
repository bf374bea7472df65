-- What a reply tells, with lists for what it holds in memory.
use Rattle.std.specs.Prelude.{ℕ, List, vec_items}
use Rattle.refusals.specs.declared.Refusal.{Refusal}
use Rattle.calculus.specs.declared.verdict.Verdict.{Verdict}
use Rattle.monitor.specs.declared.Counts.{Counts}
use Rattle.judging.specs.declared.judgement.Judgement.{Judgement}
use Rattle.commands.specs.declared.command.Usage.{Usage}
use Rattle.replies.specs.declared.reply.Reply.{Reply}
use Rattle.replies.specs.declared.reply.Reply.TheVariants.{Rule, Done, Shown, Counts as OfCounts, Verdict as OfVerdict, Held, Judged, Part, Help, Refused, Expected}

pub data Told : Type 0 where
  a_rule : ℕ → Told
  done : Told
  shown : Told
  counts : Counts → Told
  verdict : Verdict → Told
  held : List ℕ → Told
  judged : Judgement → Told
  part : List ℕ → Told
  help : Told
  refused : Refusal → Told
  expected : Usage → Told

abbrev pub told_by : Reply → Told
told_by (Rule n) = a_rule n
told_by Done = done
told_by Shown = shown
told_by (OfCounts c) = counts c
told_by (OfVerdict v) = verdict v
told_by (Held v) = held (vec_items v)
told_by (Judged j) = judged j
told_by (Part v) = part (vec_items v)
told_by Help = help
told_by (Refused f) = refused f
told_by (Expected u) = expected u
