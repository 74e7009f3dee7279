use Rattle.mk_glob.proofs.FitLemmas.{fits_where_cut}
use Rattle.mk_glob.proofs.laws.fits_where_cut.Goals as goal

pub returns : goal.returns
returns c = fits_where_cut
