-- The kinds of faults of a report: their numbers and names (this project's own).
use Rattle.std.specs.Prelude.{ℕ, List, codes}
use Rattle.trap_report.specs.declared.saved.ReportKind.{ReportKind}
use Rattle.trap_report.specs.declared.saved.ReportKind.TheVariants.{Version, Shape, Number, Truncated, TooLong, Order}

abbrev pub report_kind_number : ReportKind → ℕ
report_kind_number Version = 1
report_kind_number Shape = 2
report_kind_number Number = 3
report_kind_number Truncated = 4
report_kind_number TooLong = 5
report_kind_number Order = 6

abbrev pub report_kind_name : ReportKind → List ℕ
report_kind_name Version = codes "Version"
report_kind_name Shape = codes "Shape"
report_kind_name Number = codes "Number"
report_kind_name Truncated = codes "Truncated"
report_kind_name TooLong = codes "TooLong"
report_kind_name Order = codes "Order"
