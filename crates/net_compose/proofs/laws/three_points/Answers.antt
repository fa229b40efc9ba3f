use Rattle.prs_core.specs.Nets.{NetValue}
use Rattle.width_check.specs.Processes.{TypedProgram}
use Rattle.net_compose.specs.Carries.{Carries}
use Rattle.net_compose.specs.Points.{HasPoints}
use Rattle.net_compose.proofs.laws.three_points.Goals as goal

apart : (net : NetValue) (p : TypedProgram) → Carries net p → HasPoints net p
apart net p c = record {
  channels = c.channels;
  safe = λ script fits moves run. (c.runs script fits moves run).safe;
  prefix = λ script fits moves run. (c.runs script fits moves run).prefix;
  rest = λ script fits moves run. (c.runs script fits moves run).rest;
}

together : (net : NetValue) (p : TypedProgram) → HasPoints net p → Carries net p
together net p h = record {
  channels = h.channels;
  runs = λ script fits moves run. record { safe = h.safe script fits moves run; prefix = h.prefix script fits moves run; rest = h.rest script fits moves run };
}

pub returns : goal.returns
returns c = λ net p. (apart net p, together net p)
