mod ReportsMade
