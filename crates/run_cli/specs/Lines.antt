-- The status of each ending, and the line of each refusal (this project's own).
use Rattle.std.specs.Prelude.{ℕ, List, [], ◌∷◌, codes, decimal}
use Rattle.elf_image.specs.ImageFault.{image_fault_number, image_fault_name}
use Rattle.tag_policy.specs.Faults.{policy_kind_number, policy_kind_name}
use Rattle.trap_report.specs.Fields.{spelled}
use Rattle.trap_report.specs.ReportKinds.{report_kind_number, report_kind_name}
use Rattle.run_cli.specs.declared.files.FileKind.{FileKind}
use Rattle.run_cli.specs.declared.files.FileKind.TheVariants.{Image as ImageFile, Policy as PolicyFile, Input as InputFile, Report as ReportFile}
use Rattle.run_cli.specs.declared.ending.Ending.{Ending}
use Rattle.run_cli.specs.declared.ending.Ending.TheVariants.{Class, Words, Image, Policy, Differs, Report, Long, Memory, Read, Write}

abbrev pub exit_status : Ending → ℕ
exit_status (Class class) = class
exit_status Words = 64
exit_status (Image fault) = 65
exit_status (Policy kind table key) = 66
exit_status (Differs place) = 67
exit_status (Report line kind) = 68
exit_status (Long file) = 69
exit_status Memory = 71
exit_status (Read file) = 74
exit_status Write = 75

abbrev pub file_name : FileKind → List ℕ
file_name ImageFile = codes "image"
file_name PolicyFile = codes "policy"
file_name InputFile = codes "input"
file_name ReportFile = codes "report"

-- what a refusal tells after its status; the other endings have no line
abbrev pub cause_fields : Ending → List (List ℕ)
cause_fields (Class class) = []
cause_fields Words = codes "words" ∷ []
cause_fields (Image fault) = codes "image" ∷ decimal (image_fault_number fault) ∷ image_fault_name fault ∷ []
cause_fields (Policy kind table key) = codes "policy" ∷ decimal (policy_kind_number kind) ∷ policy_kind_name kind ∷ decimal table ∷ decimal key ∷ []
cause_fields (Differs place) = codes "differs" ∷ decimal place ∷ []
cause_fields (Report line kind) = codes "report" ∷ decimal line ∷ decimal (report_kind_number kind) ∷ report_kind_name kind ∷ []
cause_fields (Long file) = codes "long" ∷ file_name file ∷ []
cause_fields Memory = codes "memory" ∷ []
cause_fields (Read file) = codes "read" ∷ file_name file ∷ []
cause_fields Write = []

-- the line of a refusal: one space between two fields, and a line feed
abbrev pub line_of : Ending → List ℕ
line_of ending = spelled (codes "refused" ∷ decimal (exit_status ending) ∷ cause_fields ending)
