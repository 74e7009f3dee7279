use Rattle.mk_eval.specs.declared.file_forms.Form.{Form}
use Rattle.mk_eval.specs.declared.file_forms.Form.TheVariants as forms
use Rattle.mk_eval.specs.Includes as includes

-- the form that the code has
abbrev pub shown_form : Form → includes.Form
shown_form (forms.Own file) = includes.OwnFile file.now
shown_form forms.Port = includes.PortFile
shown_form forms.Subdir = includes.SubdirFile
shown_form forms.System = includes.SystemFile
shown_form forms.Nothing = includes.NoForm
