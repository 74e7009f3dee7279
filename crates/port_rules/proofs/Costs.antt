-- A record costs no more than its budget.
use Rattle.std.proofs.Common.{◌≡◌, ◌≤◌, ℕ, List, [], ◌∷◌, Option, Some, None, is_some, Result, Ok, Err, refl, sym, subst, arith, codes}
use Rattle.mk_base.specs.declared.faults.FaultKind.{FaultKind}
use Rattle.mk_base.specs.declared.faults.FaultKind.TheVariants as kinds
use Rattle.mk_base.specs.declared.budget.TheConstants.{UNITS}
use Rattle.mk_base.specs.Meter.{Meter, full}
use Rattle.mk_base.specs.Outcome.{Work, left}
use Rattle.mk_env.specs.Texts.{Variables, text_in}
use Rattle.mk_eval.proofs.Steady.{Steady, steady-give, steady-fail, bind, either, over}
use Rattle.mk_eval.proofs.SteadyTexts.{steady-variable}
use Rattle.pkg_name.specs.Name.{NameParts, split_name}
use Rattle.port_rules.specs.Depends.{DependValue, add_depends, depends_of}
use Rattle.port_rules.specs.Flavors.{FlavorsValue, flavors_read, has_chosen, checked_flavors, make_flavors}
use Rattle.port_rules.specs.Packages.{are_subpackages, default_name, full_name, made_name, name_from}
use Rattle.port_rules.specs.Packages.{package_base, package_of, packages_of, present, readable, subpackages_of}
use Rattle.port_rules.specs.Ports.{PortValue, port_of}
use Rattle.port_rules.specs.Records.{RecordsCostFew, record_units, recorded}
use Rattle.port_rules.specs.Values.{asked_text, asked_words, lowercase_words, or_else, package_text, package_value, package_words, value}
use Rattle.port_rules.specs.Values.{value_or}

steady-value : (variables : Variables) (name : List ℕ) → Steady (value variables name)
unfolding value
steady-value variables name =
    either (is_some (text_in variables name)) (bind (steady-variable variables name) (λ text. steady-give _)) (steady-give None)

steady-or_else : (found : Option (List ℕ)) (other : Work Meter FaultKind (Option (List ℕ))) → Steady other → Steady (or_else found other)
steady-or_else None other steady = steady
steady-or_else (Some text) other steady = steady-give _

steady-value_or : (variables : Variables) (name other : List ℕ) → Steady (value_or variables name other)
unfolding value_or
steady-value_or variables name other =
    bind (steady-value variables name) (λ found. steady-or_else found _ (steady-value variables other))

steady-package_value : (variables : Variables) (name subpackage : List ℕ) → Steady (package_value variables name subpackage)
steady-package_value variables name subpackage = steady-value_or variables _ name

steady-asked_text : (variables : Variables) (name : List ℕ) → Steady (asked_text variables name)
unfolding asked_text
steady-asked_text variables name = bind (steady-value variables name) (λ found. steady-give _)

steady-asked_words : (variables : Variables) (name : List ℕ) → Steady (asked_words variables name)
unfolding asked_words
steady-asked_words variables name = bind (steady-value variables name) (λ found. steady-give _)

steady-lowercase_words : (variables : Variables) (name : List ℕ) → Steady (lowercase_words variables name)
unfolding lowercase_words
steady-lowercase_words variables name = bind (steady-value variables name) (λ found. steady-give _)

steady-package_text : (variables : Variables) (name subpackage : List ℕ) → Steady (package_text variables name subpackage)
unfolding package_text
steady-package_text variables name subpackage = bind (steady-package_value variables name subpackage) (λ found. steady-give _)

steady-package_words : (variables : Variables) (name subpackage : List ℕ) → Steady (package_words variables name subpackage)
unfolding package_words
steady-package_words variables name subpackage = bind (steady-package_value variables name subpackage) (λ found. steady-give _)

steady-known : (flavors : FlavorsValue) → Steady (checked_flavors flavors)
steady-known flavors = either (has_chosen flavors) (steady-give flavors) (steady-fail kinds.Flavor)

steady-flavors_of : (variables : Variables) → Steady (flavors_read variables)
unfolding flavors_read
steady-flavors_of variables =
    bind (steady-lowercase_words variables (codes "FLAVOR")) (λ chosen. bind (steady-lowercase_words variables (codes "FLAVORS"))
    (λ proper. bind (steady-lowercase_words variables (codes "PSEUDO_FLAVORS"))
    (λ pseudo. steady-known (make_flavors chosen proper pseudo))))

steady-subpackages_of : (variables : Variables) → Steady (subpackages_of variables)
unfolding subpackages_of
steady-subpackages_of variables =
    bind (steady-asked_words variables (codes "MULTI_PACKAGES")) (λ names. either (are_subpackages names) (steady-give _)
    (steady-fail kinds.BadName))

steady-present : (text : Option (List ℕ)) → Steady (present text)
steady-present None = steady-fail kinds.NoName
steady-present (Some []) = steady-fail kinds.NoName
steady-present (Some (byte ∷ text)) = steady-give _

steady-readable : (name : Option NameParts) → Steady (readable name)
steady-readable None = steady-fail kinds.BadName
steady-readable (Some name) = steady-give _

steady-package_base : (variables : Variables) (subpackage : List ℕ) → Steady (package_base variables subpackage)
unfolding package_base
steady-package_base variables subpackage =
    bind (steady-value variables _) (λ own. steady-or_else own _
    (bind (steady-value_or variables (codes "PKGNAME") (codes "DISTNAME")) (λ found. steady-give _)))

steady-made_name : (variables : Variables) (marks : List (List ℕ)) (subpackage base : List ℕ)
    → Steady (made_name variables marks subpackage base)
steady-made_name variables marks subpackage base =
    bind (steady-package_value variables (codes "REVISION") subpackage)
    (λ revision. bind (steady-package_value variables (codes "EPOCH") subpackage)
    (λ epoch. bind (steady-readable (split_name base)) (λ name. steady-readable _)))

steady-default_name : (variables : Variables) (marks : List (List ℕ)) (subpackage : List ℕ)
    → Steady (default_name variables marks subpackage)
unfolding default_name
steady-default_name variables marks subpackage =
    bind (steady-package_base variables subpackage)
    (λ base. bind (steady-present base) (λ name. steady-made_name variables marks subpackage name))

steady-name_from : (variables : Variables) (marks : List (List ℕ)) (subpackage : List ℕ) (text : Option (List ℕ))
    → Steady (name_from variables marks subpackage text)
steady-name_from variables marks subpackage None = steady-default_name variables marks subpackage
steady-name_from variables marks subpackage (Some text) = bind (steady-present (Some text)) (λ name. steady-readable (split_name name))

steady-full_name : (variables : Variables) (marks : List (List ℕ)) (subpackage : List ℕ) → Steady (full_name variables marks subpackage)
unfolding full_name
steady-full_name variables marks subpackage = bind (steady-value variables _) (λ text. steady-name_from variables marks subpackage text)

steady-package_of : (variables : Variables) (marks : List (List ℕ)) (subpackage : List ℕ) → Steady (package_of variables marks subpackage)
unfolding package_of
steady-package_of variables marks subpackage =
    bind (steady-full_name variables marks subpackage) (λ name. bind (steady-package_text variables (codes "COMMENT") subpackage)
    (λ comment. steady-give _))

steady-packages_of : (variables : Variables) (marks subpackages : List (List ℕ)) → Steady (packages_of variables marks subpackages)
steady-packages_of variables marks subpackages =
    over (λ packages subpackage. bind (steady-package_of variables marks subpackage) (λ found. steady-give _)) [] subpackages

steady-add_depends : (variables : Variables) (found : List DependValue) (subpackage : List ℕ)
    → Steady (add_depends variables found subpackage)
unfolding add_depends
steady-add_depends variables found subpackage =
    bind (steady-package_words variables (codes "LIB_DEPENDS") subpackage) (λ lib.
    bind (steady-package_words variables (codes "RUN_DEPENDS") subpackage) (λ run. steady-give _))

steady-depends_of : (variables : Variables) (subpackages : List (List ℕ)) → Steady (depends_of variables subpackages)
unfolding depends_of
steady-depends_of variables subpackages =
    bind (steady-asked_words variables (codes "BUILD_DEPENDS")) (λ build. bind (over (steady-add_depends variables) _ subpackages)
    (λ found. bind (steady-asked_words variables (codes "TEST_DEPENDS")) (λ test. steady-give _)))

steady-port_of : (variables : Variables) → Steady (port_of variables)
unfolding port_of
steady-port_of variables =
    bind (steady-flavors_of variables) (λ flavors. bind (steady-subpackages_of variables) (λ subpackages.
    bind (steady-asked_text variables (codes "MAINTAINER"))
    (λ maintainer. bind (steady-asked_words variables (codes "CATEGORIES")) (λ categories.
    bind (steady-packages_of variables _ subpackages) (λ packages. bind (steady-depends_of variables subpackages)
    (λ depends. steady-give _))))))

recorded-costs : (makefile : List ℕ) (end : Result (PortValue × Meter) (FaultKind × Meter))
    → record_units (recorded makefile end) ≡ (left end).spent
recorded-costs makefile (Ok end) = refl
recorded-costs makefile (Err end) = refl

pub records-few : RecordsCostFew
records-few variables makefile =
    subst (λ (cost : ℕ). cost ≤ UNITS) (sym (recorded-costs makefile (port_of variables (full UNITS))))
    ((steady-port_of variables).within (full UNITS) (omega arith))
