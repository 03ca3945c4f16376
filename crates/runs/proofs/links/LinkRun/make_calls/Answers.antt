use Rattle.runs.proofs.LinkRuns.{same_lent, lawful}
use Rattle.runs.proofs.links.LinkRun.make_calls.Goals as goal

pub shape_of-self : goal.shape_of-self
shape_of-self g c = (same_lent g.L.Tap.meaning c.drive.ensures.steps).1

pub shape_of-self-2 : goal.shape_of-self-2
shape_of-self-2 g c = (same_lent g.L.Tap.meaning c.drive.ensures.steps).0

pub returns-clause-ran : goal.returns-clause-ran
returns-clause-ran g c = record {
  lawful = lawful g.L.Tap.meaning _ _ _ _ c.requires.empty c.new.ensures c.drive.ensures.steps;
  rest = c.drive.ensures.rest;
}
