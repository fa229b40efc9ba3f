use Rattle.prs_core.proofs.SiteKept.{site_kept}
use Rattle.prs_core.proofs.laws.site_keeps.Goals as goal

pub returns : goal.returns
returns c = site_kept
