use Rattle.tree_places.proofs.Fits.{short_stays, fits_frame, fits_edit, fit_links}
use Rattle.tree_places.proofs.laws.fits.Goals as goal

pub returns-clause-short : goal.returns-clause-short
returns-clause-short c = short_stays

pub returns-clause-frame : goal.returns-clause-frame
returns-clause-frame c = fits_frame

pub returns-clause-edit : goal.returns-clause-edit
returns-clause-edit c = fits_edit

pub returns-clause-links : goal.returns-clause-links
returns-clause-links c = fit_links
