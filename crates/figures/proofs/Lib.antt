mod PlanFigures
