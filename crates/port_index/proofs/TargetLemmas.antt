-- The paths that items name, port by port.
use Rattle.std.proofs.Common.{◌≡◌, ◌∙◌, ap, sym, refl, ℕ, ◌||◌, List, [], ◌∷◌, ◌++◌, map}
use Rattle.std.proofs.lemmas.List.Elements.{filter_map-append}
use Rattle.std.proofs.lemmas.List.Folds.{list_any-append}
use Rattle.std.specs.List.{filter_map, flat_map, cons_option, list_any}
use Rattle.std.specs.Str.{bytes_eq}
use Rattle.text_parts.specs.Ordered.{among-in_order}
use Rattle.port_rules.specs.Depends.{DependValue}
use Rattle.port_deps.specs.Items.{item_of}
use Rattle.port_index.specs.Dependencies.{item_at, items_in, items_among, target_of, target_by, targets_in}
use Rattle.port_index.specs.FilledRows.{is_one_of}
use Rattle.port_index.specs.RowLaws.{NeededAreNamed}
use Rattle.port_index.specs.PathOutcomes.{PathOutcome, Absent, Faulty, Port, BadPort, Lists, BadList, FlavoredList, Other}

targets-of_depends : (path : List ℕ) (depends : List DependValue) → filter_map target_by depends ≡ filter_map target_of
    (map (item_at path) (map item_of depends))
targets-of_depends path [] = refl
targets-of_depends path (depend ∷ depends) = ap (cons_option (target_by depend)) (targets-of_depends path depends)

targets-of_items : (path : List ℕ) (outcome : PathOutcome) → targets_in outcome ≡ filter_map target_of (items_in path outcome)
targets-of_items path (Port port) = targets-of_depends path port.depends
targets-of_items path Absent = refl
targets-of_items path (Faulty fault) = refl
targets-of_items path (BadPort fault) = refl
targets-of_items path (Lists words) = refl
targets-of_items path (BadList fault) = refl
targets-of_items path FlavoredList = refl
targets-of_items path Other = refl

-- what the items of ports name, read port by port, is what all their items name
pub targets-among : (outcomes : List ℕ → PathOutcome) (paths : List (List ℕ))
    → flat_map (λ path. targets_in (outcomes path)) paths ≡ filter_map target_of (items_among outcomes paths)
targets-among outcomes [] = refl
targets-among outcomes (path ∷ paths) =
    (λ i. targets-of_items path (outcomes path) i ++ targets-among outcomes paths i)
    ∙ sym (filter_map-append target_of (items_in path (outcomes path)) (items_among outcomes paths))

named_by_one : (path : List ℕ) (targets : List ℕ → List (List ℕ)) (paths : List (List ℕ)) → is_one_of path (flat_map targets paths) ≡
    list_any (λ one. is_one_of path (targets one)) paths
named_by_one path targets [] = refl
named_by_one path targets (one ∷ paths) =
    list_any-append (λ other. bytes_eq other path) (targets one) (flat_map targets paths) ∙ ap (λ b. is_one_of path (targets one) || b)
    (named_by_one path targets paths)

-- a path is needed if it is listed, or if a listed path's row names it
pub needed-named : NeededAreNamed
needed-named outcomes listed path =
    let targets = filter_map target_of (items_among outcomes listed) in
    among-in_order (λ one. bytes_eq one path) (listed ++ targets) ∙ list_any-append (λ one. bytes_eq one path) listed targets
    ∙ ap (λ b. is_one_of path listed || b)
    (ap (is_one_of path) (sym (targets-among outcomes listed)) ∙ named_by_one path (λ one. targets_in (outcomes one)) listed)
